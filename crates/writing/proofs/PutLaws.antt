-- Texts put one behind the other.
-- Assumes nothing.
use Prim.Native.Nat.{ℕ, suc, ◌+◌, ◌≤◌, ◌<◌}
use mathlib.Core.Path.{◌≡◌, sym, ap, ◌∙◌}
use mathlib.Core.List.{List, [], ◌∷◌, ◌++◌, map, append_assoc, append-nil}
use native.Mathlib.Nat.{zero-add}
use native.Mathlib.Numerals.{add-one}
use native.Mathlib.Omega.{arith}
use lib.ListN.{length, get_or, take, drop, set, length-append}
use lib.Seq.{sets, sets-eq, take-suc}
use Rattle.text.specs.Split.{joined}
use Rattle.numbers.specs.Numbers.{spell}
use Rattle.numbers.proofs.Spelling.{spell_digit}
use Rattle.numbers.proofs.SpelledNumbers.{spell_more, length_spell}
use Rattle.std.specs.Prelude.{Some}
use Rattle.writing.specs.Lay.{Laid}
use Rattle.writing.specs.Put.{Put, listed}

pub laid_both : (l s t : List ℕ) (i : ℕ) → sets l i (s ++ t) ≡ sets (sets l i s) (i + length s) t
laid_both l [] t i = let e : i ≡ i + 0 = omega arith in ap (λ (k : ℕ). sets l k t) e
laid_both l (a ∷ s) t i =
    let e : suc i + length s ≡ i + suc (length s) = omega arith in
    laid_both (set l i a) s t (suc i) ∙ ap (λ (k : ℕ). sets (sets (set l i a) (suc i) s) k t) e

-- A text that fits stands in front, and behind it the room is as it was.
pub laid_in_front : (s l : List ℕ) → length s ≤ length l → sets l 0 s ≡ s ++ drop (length s) l
laid_in_front s l h = sets-eq s l 0 (omega arith) ∙ ap (λ (k : ℕ). s ++ drop k l) (zero-add (length s))

-- ---- a text measured, and then put into a room

pub laid_some : (text old : List ℕ) (n : ℕ) (nowhere left : List ℕ) → Put text 0 nowhere n left → (m : ℕ) (new : List ℕ) → Put text 0 old m new
    → n ≤ length old → Laid text old (Some n) new
laid_some text old n nowhere left measured m new put h = record {
  some = λ k e. (
    omega (arith, measured.next),
    (let z : n ≡ k = cc in omega (arith, measured.next)),
    put.laid ∙ laid_in_front text old (omega (arith, measured.next)),
  );
  none = λ e. let z : ◌≡◌ {A = ℕ} 0 1 = cc in absurd (omega arith);
}

-- A number of 16 bits has at most five digits.
pub few_digits : (n : ℕ) → n < 65536 → length (spell n) ≤ 5
few_digits n h = length_spell 4 n (omega arith)

-- ---- one after the other

pub take_more : (l : List ℕ) (i : ℕ) → i < length l → take (i + 1) l ≡ take i l ++ (get_or l i 0 ∷ [])
take_more l i h = rw (add-one, take-suc l i 0)

pub listed_last : (c : ℕ) (ns : List ℕ) (n : ℕ) → listed c (ns ++ (n ∷ [])) ≡ listed c ns ++ (c ∷ []) ++ spell n
listed_last c [] n = ap (λ (t : List ℕ). c ∷ t) (append-nil (spell n))
listed_last c (m ∷ ns) n =
    ap (λ (t : List ℕ). c ∷ (spell m ++ t)) (listed_last c ns n)
    ∙ simp append_assoc

-- Numbers joined by a separator: the first, and the others behind it.
pub joined_listed : (c n : ℕ) (ns : List ℕ) → joined c (map spell (n ∷ ns)) ≡ spell n ++ listed c ns
unfolding joined
joined_listed c n [] = sym (append-nil (spell n))
joined_listed c n (m ∷ ns) = ap (λ (t : List ℕ). spell n ++ (c ∷ t)) (joined_listed c m ns)

-- What puts texts one behind the other is proved by these.
pub ruleset kit = (laid_both, length-append, few_digits, take_more, listed_last, spell_digit, spell_more)

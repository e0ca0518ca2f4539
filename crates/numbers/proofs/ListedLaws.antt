-- A field that lists numbers reads back to them; which bytes it has, and how many.
-- Assumes nothing.
use Prim.Native.Nat.{ℕ, suc, ◌+◌, ◌-◌, ◌*◌, ◌^◌, ◌≤◌, ◌<◌}
use mathlib.Core.Path.{◌≡◌, refl}
use mathlib.Core.Bool.{true, false, ◌&&◌}
use mathlib.Core.List.{List, [], ◌∷◌, map}
use native.Mathlib.Nat.{mul-suc}
use native.Mathlib.Omega.{arith}
use borrow.Author.Tests.{ne_eqb}
use lib.ListN.{length}
use Rattle.text.specs.Split.{split, joined}
use Rattle.text.specs.Lines.{printable}
use Rattle.text.proofs.Spelled.{Lacks, lacks_joined, split_parts, length_joined, printable_listed}
use Rattle.fields.specs.Fields.{same_bytes}
use Rattle.layout.specs.Layout.{most_number}
use Rattle.numbers.specs.Numbers.{spell, is_number}
use Rattle.numbers.specs.Listed.{is_none, is_list, list_of, list_word, are_numbers}
use Rattle.numbers.proofs.SpelledNumbers.{length_spell, Under, spells_lack, spells_printable, spells_numbers, spells_values, weight_spells}

pub are_numbers_none : are_numbers [] ≡ true
unfolding are_numbers
are_numbers_none = refl

pub are_numbers_first : (p : List ℕ) (ps : List (List ℕ)) → are_numbers (p ∷ ps) ≡ (is_number p && are_numbers ps)
unfolding are_numbers
are_numbers_first p ps = refl

lacks_differs : (b : ℕ) (l : List ℕ) → Lacks b l → same_bytes l (b ∷ []) ≡ false
lacks_differs b [] f = refl
lacks_differs b (x ∷ xs) f = simp (ne_eqb x b f.0)

not_none : (n : ℕ) (ns : List ℕ) → is_none (list_word (n ∷ ns)) ≡ false
not_none n ns =
    lacks_differs 45 (joined 44 (map spell (n ∷ ns)))
    (lacks_joined 45 44 (map spell (n ∷ ns)) (λ e. absurd (omega arith)) (spells_lack 45 (n ∷ ns) (omega arith)))

word_parts : (n : ℕ) (ns : List ℕ) → split 44 (list_word (n ∷ ns)) ≡ map spell (n ∷ ns)
word_parts n ns = split_parts 44 (spell n) (map spell ns) (spells_lack 44 (n ∷ ns) (omega arith))

pub word_list : (ns : List ℕ) → Under (most_number + 1) ns → is_list (list_word ns) ≡ true
word_list [] u = refl
word_list (n ∷ ns) u = rw (not_none n ns, word_parts n ns) (spells_numbers (n ∷ ns) u)

pub word_reads : (ns : List ℕ) → Under (most_number + 1) ns → list_of (list_word ns) ≡ ns
word_reads [] u = refl
word_reads (n ∷ ns) u = rw (not_none n ns, word_parts n ns) (spells_values (n ∷ ns) u)

pub word_lacks : (c : ℕ) (ns : List ℕ) → c < 44 → Lacks c (list_word ns)
word_lacks c [] h = (λ e. absurd (omega arith), tt)
word_lacks c (n ∷ ns) h = lacks_joined c 44 (map spell (n ∷ ns)) (λ e. absurd (omega arith)) (spells_lack c (n ∷ ns) (omega arith))

pub word_printable : (ns : List ℕ) → printable (list_word ns) ≡ true
unfolding printable
word_printable [] = refl
word_printable (n ∷ ns) = printable_listed (map spell (n ∷ ns)) (spells_printable (n ∷ ns))

-- Numbers of at most d + 1 digits, each but the last with its comma.
pub length_listed : (d : ℕ) (ns : List ℕ) → Under (10 ^ suc d) ns → length (joined 44 (map spell ns)) ≤ (2 + d) * length ns - 1
unfolding joined
length_listed d [] u = omega arith
length_listed d (n ∷ ns) u =
    let l = length_spell d n u.0 in
    let w = weight_spells d ns u.1 in
    let j = length_joined 44 (spell n) (map spell ns) in
    let e = mul-suc (2 + d) (length ns) in
    omega arith

pub word_length : (d : ℕ) (ns : List ℕ) → Under (10 ^ suc d) ns → length (list_word ns) ≤ (2 + d) * length ns + 1
word_length d [] u = omega arith
word_length d (n ∷ ns) u = let l = length_listed d (n ∷ ns) u in omega arith

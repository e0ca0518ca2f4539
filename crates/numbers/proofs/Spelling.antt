-- A number has exactly one spelling: each reads back, and whatever reads as a number is its spelling.
-- Assumes nothing.
use mathlib.Core.Path.{◌≡◌, refl, sym, ap, ap₂, ◌∙◌, subst}
use mathlib.Core.Bool.{Bool, true, false, cond, ◌&&◌}
use mathlib.Core.List.{List, [], ◌∷◌, ◌++◌, append_assoc, append-nil}
use Rattle.std.specs.Prelude.{Option, Some, None}
use Prim.Native.Nat.{ℕ, zero, suc, ◌+◌, ◌-◌, ◌*◌, ◌/◌, ◌%◌, ◌≤◌, ◌<◌}
use native.Mathlib.Omega.{arith}
use borrow.Author.Tests.{le-leb, ne_eqb, lt-ltb, le-ltb, ltb-true, ltb-false}
use lib.Dec.{T, leb, ltb, eqb, leb→le, T_not, eqb_refl}
use Rattle.sets.proofs.Truth.{and_l, and_r}
use Rattle.numbers.specs.Numbers.{digit, digits, value_from, plain, decimal, spell_in, spell}

-- ---- the spelling's last digit

short : (d n : ℕ) → n < 10 → spell_in (suc d) n ≡ (48 + n) ∷ []
unfolding spell_in
short d n h = simp (lt-ltb n 10 h)

long : (d n : ℕ) → 10 ≤ n → spell_in (suc d) n ≡ spell_in d (n / 10) ++ ((48 + n % 10) ∷ [])
unfolding spell_in
long d n h = simp (le-ltb n 10 h)

-- More digits than are needed change nothing.
enough : (d e n : ℕ) → n < d → n < e → spell_in d n ≡ spell_in e n
enough zero e n h k = absurd (omega arith)
enough (suc d) zero n h k = absurd (omega arith)
enough (suc d) (suc e) n h k = go (ltb n 10) refl (λ a b. enough d e (n / 10) a b)
  where
    go : (t : Bool) → ltb n 10 ≡ t → (n / 10 < d → n / 10 < e → spell_in d (n / 10) ≡ spell_in e (n / 10)) → spell_in (suc d) n ≡ spell_in (suc e) n
    go true q rest = let l = ltb-true n 10 q in short d n l ∙ sym (short e n l)
    go false q rest =
        let l = ltb-false n 10 q in
        long d n l ∙ ap (λ (front : List ℕ). front ++ ((48 + n % 10) ∷ [])) (rest (omega arith) (omega arith)) ∙ sym (long e n l)

pub spell_digit : (n : ℕ) → n < 10 → spell n ≡ (48 + n) ∷ []
spell_digit n h = short n n h

pub spell_step : (v d : ℕ) → 0 < v → d < 10 → spell (v * 10 + d) ≡ spell v ++ ((48 + d) ∷ [])
spell_step v d h k =
    let n : ℕ = v * 10 + d in
    let q : n / 10 ≡ v = omega arith in
    let r : n % 10 ≡ d = omega arith in
    long n n (omega arith)
    ∙ ap₂ (λ (m : ℕ) (e : ℕ). spell_in n m ++ ((48 + e) ∷ [])) q r
    ∙ ap (λ (front : List ℕ). front ++ ((48 + d) ∷ [])) (enough n (suc v) v (omega arith) (omega arith))

-- ---- whatever reads as a number is its spelling

pub digit_of : (b : ℕ) → T (digit b) → (48 ≤ b) × (b ≤ 57)
digit_of b t = go (leb 48 b) refl t
  where
    go : (s : Bool) → leb 48 b ≡ s → T (s && leb b 57) → (48 ≤ b) × (b ≤ 57)
    go true e u = (leb→le 48 b (subst T (sym e) tt), leb→le b 57 u)
    go false e u = absurd u

-- Digits after a value that is not 0 stand at the end of the spelling.
spell_value : (v : ℕ) (bs : List ℕ) → 0 < v → T (digits bs) → spell (value_from v bs) ≡ spell v ++ bs
unfolding value_from digits
spell_value v [] h t = sym (append-nil (spell v))
spell_value v (b ∷ bs) h t =
    let d = digit_of b (and_l (digit b) (digits bs) t) in
    let e : 48 + (b - 48) ≡ b = omega arith in
    spell_value (v * 10 + (b - 48)) bs (omega arith) (and_r (digit b) (digits bs) t)
    ∙ ap (λ (front : List ℕ). front ++ bs) (spell_step v (b - 48) h (omega arith) ∙ ap (λ (x : ℕ). spell v ++ (x ∷ [])) e)
    ∙ append_assoc (spell v) (b ∷ []) bs

spelled : (bs : List ℕ) → T (plain bs) → T (digits bs) → spell (value_from 0 bs) ≡ bs
unfolding value_from digits
spelled [] p t = absurd p
spelled (b ∷ []) p t =
    let d = digit_of b (and_l (digit b) true t) in
    let e : 48 + (0 * 10 + (b - 48)) ≡ b = omega arith in
    spell_digit (0 * 10 + (b - 48)) (omega arith) ∙ ap (λ (x : ℕ). x ∷ []) e
spelled (b ∷ (c ∷ bs)) p t =
    let d = digit_of b (and_l (digit b) (digits (c ∷ bs)) t) in
    let n : (b ≡ 48 → ⊥) = λ e. T_not (eqb b 48) p (subst (λ (x : ℕ). T (eqb x 48)) (sym e) (eqb_refl 48)) in
    let m : 0 < 0 * 10 + (b - 48) = first b d.0 n in
    let e : 48 + (0 * 10 + (b - 48)) ≡ b = omega arith in
    spell_value (0 * 10 + (b - 48)) (c ∷ bs) m (and_r (digit b) (digits (c ∷ bs)) t)
    ∙ ap (λ (front : List ℕ). front ++ (c ∷ bs)) (spell_digit (0 * 10 + (b - 48)) (omega arith) ∙ ap (λ (x : ℕ). x ∷ []) e)
  where
    first : (b : ℕ) → 48 ≤ b → (b ≡ 48 → ⊥) → 0 < 0 * 10 + (b - 48)
    first b h n = omega arith

-- What a field that is a number says of its bytes.
pub decimal_out : (most : ℕ) (bs : List ℕ) (n : ℕ) → decimal most bs ≡ Some n → T (plain bs) × T (digits bs) × (value_from 0 bs ≡ n) × (n ≤ most)
unfolding decimal
decimal_out most bs n e = go (plain bs) refl (digits bs) refl (leb (value_from 0 bs) most) refl e
  where
    go : (p : Bool) → plain bs ≡ p → (q : Bool) → digits bs ≡ q → (r : Bool) → leb (value_from 0 bs) most ≡ r
        → ◌≡◌ {A = Option ℕ} (cond (p && q && r) (Some (value_from 0 bs)) None) (Some n)
        → T (plain bs) × T (digits bs) × (value_from 0 bs ≡ n) × (n ≤ most)
    go true p true q true r f =
        let z : value_from 0 bs ≡ n = cc in
        (subst T (sym p) tt, subst T (sym q) tt, z, subst (λ (x : ℕ). x ≤ most) z (leb→le (value_from 0 bs) most (subst T (sym r) tt)))
    go true p true q false r f = let z : ◌≡◌ {A = ℕ} 0 1 = cc in absurd (omega arith)
    go true p false q s r f = let z : ◌≡◌ {A = ℕ} 0 1 = cc in absurd (omega arith)
    go false p s q u r f = let z : ◌≡◌ {A = ℕ} 0 1 = cc in absurd (omega arith)

pub one_spelling : (most : ℕ) (bs : List ℕ) (n : ℕ) → decimal most bs ≡ Some n → bs ≡ spell n
one_spelling most bs n e = let d = decimal_out most bs n e in sym (spelled bs d.0 d.1) ∙ ap spell d.2

-- Reading is injective on accepted spellings.
pub reading_injective : (most : ℕ) (a b : List ℕ) (n : ℕ) → decimal most a ≡ Some n → decimal most b ≡ Some n → a ≡ b
reading_injective most a b n p q = one_spelling most a n p ∙ sym (one_spelling most b n q)

-- ---- each number's spelling reads back

value_snoc : (v : ℕ) (bs : List ℕ) (b : ℕ) → value_from v (bs ++ (b ∷ [])) ≡ value_from v bs * 10 + (b - 48)
unfolding value_from
value_snoc v [] b = refl
value_snoc v (c ∷ bs) b = value_snoc (v * 10 + (c - 48)) bs b

digits_snoc : (bs : List ℕ) (b : ℕ) → digits bs ≡ true → digit b ≡ true → digits (bs ++ (b ∷ [])) ≡ true
unfolding digits
digits_snoc [] b h k = simp k
digits_snoc (c ∷ bs) b h k = go (digit c) (digits bs) h (digits_snoc bs b)
  where
    go : (s t : Bool) → (s && t) ≡ true → (t ≡ true → digit b ≡ true → digits (bs ++ (b ∷ [])) ≡ true) → (s && digits (bs ++ (b ∷ []))) ≡ true
    go true t e rest = rest e k
    go false t e rest = let z : ◌≡◌ {A = ℕ} 0 1 = cc in absurd (omega arith)

digit_yes : (d : ℕ) → d < 10 → digit (48 + d) ≡ true
digit_yes d h = simp (le-leb 48 (48 + d) (omega arith), le-leb (48 + d) 57 (omega arith))

-- The first byte is there and is no 0.
abbrev Leads : List ℕ → Type 0
Leads [] = ⊥
Leads (b ∷ bs) = b ≡ 48 → ⊥

leads_on : (xs ys : List ℕ) → Leads xs → Leads (xs ++ ys)
leads_on [] ys h = absurd h
leads_on (x ∷ xs) ys h = h

leads_plain : (xs : List ℕ) → Leads xs → plain xs ≡ true
leads_plain [] h = absurd h
leads_plain (b ∷ []) h = refl
leads_plain (b ∷ (c ∷ bs)) h = simp (ne_eqb b 48 h)

record Spells (n : ℕ) (bs : List ℕ) : Type 0 where
  are_digits : digits bs ≡ true
  value : value_from 0 bs ≡ n
  leads : 0 < n → Leads bs

spells_digit : (n : ℕ) → n < 10 → Spells n ((48 + n) ∷ [])
unfolding digits value_from
spells_digit n h = record { are_digits = simp (digit_yes n h); value = omega arith; leads = λ p e. omega arith }

spells_more : (n : ℕ) (front : List ℕ) → 10 ≤ n → Spells (n / 10) front → Spells n (front ++ ((48 + n % 10) ∷ []))
spells_more n front h s = record {
  are_digits = digits_snoc front (48 + n % 10) s.are_digits (digit_yes (n % 10) (omega arith));
  value = value_snoc 0 front (48 + n % 10) ∙ ap (λ (v : ℕ). v * 10 + (48 + n % 10 - 48)) s.value ∙ omega arith;
  leads = λ p. leads_on front ((48 + n % 10) ∷ []) (s.leads (omega arith));
}

spells : (d n : ℕ) → n < d → Spells n (spell_in d n)
spells zero n h = absurd (omega arith)
spells (suc d) n h = go (ltb n 10) refl (λ k. spells d (n / 10) k)
  where
    go : (t : Bool) → ltb n 10 ≡ t → (n / 10 < d → Spells (n / 10) (spell_in d (n / 10))) → Spells n (spell_in (suc d) n)
    go true q rest = let l = ltb-true n 10 q in rw (short d n l) (spells_digit n l)
    go false q rest = let l = ltb-false n 10 q in rw (long d n l) (spells_more n (spell_in d (n / 10)) l (rest (omega arith)))

spell_plain : (n : ℕ) → plain (spell n) ≡ true
spell_plain zero = ap plain (spell_digit 0 (omega arith))
spell_plain (suc n) = leads_plain (spell (suc n)) ((spells (suc (suc n)) (suc n) (omega arith)).leads (omega arith))

-- Each number that is not too large has a spelling that reads back to it.
pub spelling_reads : (most n : ℕ) → n ≤ most → decimal most (spell n) ≡ Some n
unfolding decimal
spelling_reads most n h =
    let s = spells (suc n) n (omega arith) in
    simp (spell_plain n, s.are_digits, s.value, le-leb n most h)

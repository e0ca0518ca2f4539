-- The laws of sets that callers use, over any width n: they never look at a bit.
use Prim.Native.Nat.{ℕ, zero, suc, ◌+◌, ◌-◌, ◌*◌, ◌/◌, ◌%◌, ◌^◌, ◌≤◌, ◌<◌}
use mathlib.Core.Path.{◌≡◌, refl, sym, ap, ◌∙◌, subst}
use mathlib.Core.Logic.{◌⊎◌, inl, inr, ◌↔◌}
use mathlib.Core.Bool.{Bool, true, false, not, cond, ◌&&◌, ◌||◌}
use mathlib.Core.List.{List, [], ◌∷◌}
use native.Mathlib.Nat.{add-zero, one-mul, div-eq_of_lt, div-one, mod-lt}
use native.Mathlib.Nat.{eq-or-lt_of_le, le_trans, lt_of_not-le, not-suc-le-zero}
use native.Mathlib.Numerals.{add-one}
use native.Mathlib.Omega.{arith}
use borrow.Author.Tests.{eqb-true, eqb-false, le-leb, lt-ltb}
use lib.Bits.{bit_or, bit_and, or_lt}
use lib.Count.{ones, ones_in, ones_cat, ones_step}
use lib.Dec.{T, eqb, ltb, leb, eqb→eq, eqb_refl, ltb→lt, lt→ltb, T_not, not_T, eqb-suc-zero, eqb-zero-suc, eqb-suc-suc}
use lib.ListN.{length}
use lib.Pow.{ones_sub-lt, pow-lt, pow_mono, pow_pos, shr-shr}
use Rattle.sets.specs.Sets.{◌∈◌, member, set_of, singleton, union, intersection, complement, Overlap, Within, Single}
use Rattle.sets.specs.Sets.{some_below, overlaps, within, cons_if, members_from, members, single}
use Rattle.sets.proofs.Truth.{or_l, or_r, or_cases, and_i, and_l, and_r, same, decide, no_false, false_no}
use Rattle.sets.proofs.Bits.{digit_ext, member_or, member_and, member_zero, member_add, member_suc, member_empty, member_mod, member_mirror}
use Rattle.sets.proofs.Bits.{below_own_power, quotient_below, sum_or, shift_exact}

-- ---- sets and their members

-- two sets with the same members below the width are the same number
pub ext : (n s t : ℕ) → s < 2 ^ n → t < 2 ^ n → ((i : ℕ) → i < n → member i s ≡ member i t) → s ≡ t
ext zero s t hs ht h = omega arith
ext (suc n) s t hs ht h =
    let low : s % 2 ≡ t % 2 =
    digit_ext (s % 2) (t % 2) (omega arith) (omega arith) (sym (member_zero s) ∙ h 0 (omega arith) ∙ member_zero t)
    in
    let high : s / 2 ≡ t / 2 =
    ext n (s / 2) (t / 2) (omega arith) (omega arith) (λ i l. sym (member_suc i s) ∙ h (suc i) (omega arith) ∙ member_suc i t)
    in
    omega arith

-- a set without members is 0
pub no_member : (s : ℕ) → ((i : ℕ) → T (member i s) → ⊥) → s ≡ 0
no_member s f = ext s s 0 (below_own_power s) (pow_pos s) (λ i l. no_false (member i s) (f i) ∙ sym (member_empty i))

-- ---- within a width

pub below_within : (n s : ℕ) → s < 2 ^ n → Within n s
below_within n s h i t = lt_of_not-le (λ g. false_no (member i s) (none (le_trans h (pow_mono g))) t)
  where
    none : s < 2 ^ i → member i s ≡ false
    none l = ap (λ (m : ℕ). eqb (m % 2) 1) (div-eq_of_lt l)

pub within_below : (n s : ℕ) → Within n s → s < 2 ^ n
within_below n s f =
    let high : s / 2 ^ n ≡ 0 = no_member (s / 2 ^ n) (λ i t. let l = f (n + i) (rw (member_add n i s) t) in omega arith) in
    quotient_below n s high

pub within_iff : (n s : ℕ) → T (within n s) ↔ Within n s
within_iff n s = ((λ t. below_within n s (ltb→lt s (2 ^ n) t)), (λ w. lt→ltb s (2 ^ n) (within_below n s w)))

-- ---- the set of the numbers that pass a test

pub set_of_below : (n : ℕ) (f : ℕ → Bool) → set_of n f < 2 ^ n
unfolding set_of
set_of_below zero f = omega arith
set_of_below (suc n) f = go (f n) (set_of_below n f)
  where
    go : (b : Bool) → set_of n f < 2 ^ n → set_of n f + cond b (2 ^ n) 0 < 2 ^ suc n
    go true l = omega arith
    go false l = omega arith

pub set_of_above : (n : ℕ) (f : ℕ → Bool) (i : ℕ) → n ≤ i → T (member i (set_of n f)) → ⊥
set_of_above n f i h t = let l = below_within n (set_of n f) (set_of_below n f) i t in omega arith

pub member-singleton : (i j : ℕ) → member i (singleton j) ≡ eqb i j
member-singleton zero zero = refl
member-singleton (suc i) zero = member_suc i 1 ∙ member_empty i ∙ sym (eqb-suc-zero i)
member-singleton zero (suc j) = rw (eqb-zero-suc j) (let e : 2 ^ suc j / 1 % 2 ≡ 0 = omega arith in rw e)
member-singleton (suc i) (suc j) =
    let half : 2 ^ suc j / 2 ≡ 2 ^ j = omega arith in
    member_suc i (2 ^ suc j) ∙ ap (member i) half ∙ member-singleton i j ∙ sym (eqb-suc-suc i j)

pub singleton_below : (n i : ℕ) → i < n → singleton i < 2 ^ n
singleton_below n i h = pow-lt h

-- the sum with 2 ^ n puts n in and changes no other member
member_put : (n i s : ℕ) (b : Bool) → s < 2 ^ n → member i (s + cond b (2 ^ n) 0) ≡ cond (eqb i n) b (member i s)
member_put n i s true h =
    ap (member i) (sum_or n s h) ∙ member_or i s (2 ^ n) ∙ ap (λ (b : Bool). member i s || b) (member-singleton i n) ∙ go (eqb i n) (member i s)
  where
    go : (a b : Bool) → (b || a) ≡ cond a true b
    go true true = refl
    go true false = refl
    go false true = refl
    go false false = refl
member_put n i s false h = ap (member i) (add-zero s) ∙ go (eqb i n) refl
  where
    go : (b : Bool) → eqb i n ≡ b → member i s ≡ cond b false (member i s)
    go true e = no_false (member i s) (λ t. let l = below_within n s h i t in let z = eqb-true i n e in omega arith)
    go false e = refl

pub member-set_of : (n : ℕ) (f : ℕ → Bool) (i : ℕ) → i < n → member i (set_of n f) ≡ f i
unfolding set_of
member-set_of zero f i h = absurd (not-suc-le-zero h)
member-set_of (suc n) f i h = member_put n i (set_of n f) (f n) (set_of_below n f) ∙ go (eqb i n) refl (λ l. member-set_of n f i l)
  where
    go : (b : Bool) → eqb i n ≡ b → (i < n → member i (set_of n f) ≡ f i) → cond b (f n) (member i (set_of n f)) ≡ f i
    go true e rest = ap f (sym (eqb-true i n e))
    go false e rest = rest (let z = eqb-false i n e in omega arith)

pub set_of_members : (n s : ℕ) → s < 2 ^ n → set_of n (λ i. member i s) ≡ s
set_of_members n s h = ext n (set_of n (λ i. member i s)) s (set_of_below n (λ i. member i s)) h (λ i l. member-set_of n (λ i. member i s) i l)

-- ---- union, intersection, complement

pub union_below : (n s t : ℕ) → union n s t < 2 ^ n
union_below n s t = set_of_below n (λ i. member i s || member i t)

pub member_union : (n s t i : ℕ) → i < n → member i (union n s t) ≡ (member i s || member i t)
member_union n s t i h = member-set_of n (λ i. member i s || member i t) i h

-- the machine's `|`
pub union_is : (n s t : ℕ) → s < 2 ^ n → t < 2 ^ n → bit_or s t ≡ union n s t
union_is n s t hs ht =
    ext n (bit_or s t) (union n s t) (or_lt n s t hs ht) (union_below n s t) (λ i l. member_or i s t ∙ sym (member_union n s t i l))

pub member_intersection : (n s t i : ℕ) → i < n → member i (intersection n s t) ≡ (member i s && member i t)
member_intersection n s t i h = member-set_of n (λ i. member i s && member i t) i h

-- the machine's `&`
pub intersection_is : (n s t : ℕ) → s < 2 ^ n → bit_and s t ≡ intersection n s t
intersection_is n s t hs =
    ext n (bit_and s t) (intersection n s t)
    (within_below n (bit_and s t) (λ i y. below_within n s hs i (and_l (member i s) (member i t) (subst T (member_and i s t) y))))
    (set_of_below n (λ i. member i s && member i t)) (λ i l. member_and i s t ∙ sym (member_intersection n s t i l))

pub complement_below : (n s : ℕ) → complement n s < 2 ^ n
complement_below n s = set_of_below n (λ i. not (member i s))

pub member_complement : (n s i : ℕ) → i < n → member i (complement n s) ≡ not (member i s)
member_complement n s i h = member-set_of n (λ i. not (member i s)) i h

-- all of 0 .. n - 1 less the members of s
pub complement_is : (n s : ℕ) → 2 ^ n - 1 - s % 2 ^ n ≡ complement n s
complement_is n s =
    ext n (2 ^ n - 1 - s % 2 ^ n) (complement n s) (ones_sub-lt n (s % 2 ^ n)) (complement_below n s)
    (λ i l. member_mirror n i (s % 2 ^ n) l (mod-lt s (pow_pos n)) ∙ ap not (member_mod n i s l) ∙ sym (member_complement n s i l))

-- ---- turns of a loop that gathers a set, number by number

pub set_of_none : (f : ℕ → Bool) → set_of 0 f ≡ 0
unfolding set_of
set_of_none f = refl

pub set_of_yes : (n t : ℕ) (f : ℕ → Bool) → t ≡ set_of n f → f n ≡ true → t + singleton n ≡ set_of (n + 1) f
unfolding set_of
set_of_yes n t f e y = rw (add-one n, y, e)

pub set_of_no : (n t : ℕ) (f : ℕ → Bool) → t ≡ set_of n f → f n ≡ false → t ≡ set_of (n + 1) f
unfolding set_of
set_of_no n t f e y = rw (add-one n, y, e, add-zero)

-- The same as a loop has it: b is what the test of n answered, x is {n}, r the union with it in a width w that holds n.

pub set_of_put : (w n t x r : ℕ) (b : Bool) (f : ℕ → Bool) → n < w → t ≡ set_of n f → b ≡ f n → b ≡ true → x ≡ singleton n → r ≡ union w t x
    → r ≡ set_of (n + 1) f
set_of_put w n t x r b f h e answer y one u =
    let below : t < 2 ^ n = rw e (set_of_below n f) in
    let wide : 2 ^ n < 2 ^ w = pow-lt h in
    u ∙ ap (union w t) one ∙ sym (union_is w t (2 ^ n) (omega arith) wide) ∙ sym (sum_or n t below) ∙ set_of_yes n t f e (sym answer ∙ y)

pub set_of_skip : (n t : ℕ) (b : Bool) (f : ℕ → Bool) → t ≡ set_of n f → b ≡ f n → b ≡ false → t ≡ set_of (n + 1) f
set_of_skip n t b f e answer z = set_of_no n t f e (sym answer ∙ z)

pub set_of_end : (n i t : ℕ) (f : ℕ → Bool) → i ≤ n → n ≤ i → t ≡ set_of i f → t ≡ set_of n f
set_of_end n i t f h k e = let z : i ≡ n = omega arith in rw z at e

-- ---- some number below n

pub some_below_none : (f : ℕ → Bool) → some_below 0 f ≡ false
unfolding some_below
some_below_none f = refl

pub some_below_more : (n : ℕ) (f : ℕ → Bool) → some_below (n + 1) f ≡ (some_below n f || f n)
unfolding some_below
some_below_more n f = rw (add-one n)

pub some_below_out : (n : ℕ) (f : ℕ → Bool) → T (some_below n f) → (x : ℕ) × (x < n) × T (f x)
unfolding some_below
some_below_out zero f t = absurd t
some_below_out (suc n) f t = go (λ s. some_below_out n f s) (or_cases (some_below n f) (f n) t)
  where
    go : (T (some_below n f) → (x : ℕ) × (x < n) × T (f x)) → T (some_below n f) ⊎ T (f n) → (x : ℕ) × (x < suc n) × T (f x)
    go rest (inl s) = let r = rest s in let h = r.1 in (r.0, omega arith, r.2)
    go rest (inr s) = (n, omega arith, s)

pub some_below_in : (n : ℕ) (f : ℕ → Bool) (x : ℕ) → x < n → T (f x) → T (some_below n f)
unfolding some_below
some_below_in zero f x h t = absurd (not-suc-le-zero h)
some_below_in (suc n) f x h t = go (λ l. some_below_in n f x l t) (eq-or-lt_of_le h)
  where
    go : (x < n → T (some_below n f)) → (suc x ≡ suc n) ⊎ (suc x < suc n) → T (some_below n f || f n)
    go rest (inl e) = let q : x ≡ n = omega arith in or_r (some_below n f) (f n) (subst (λ (z : ℕ). T (f z)) q t)
    go rest (inr l) = or_l (some_below n f) (f n) (rest (omega arith))

-- ---- overlap

pub overlaps_iff : (n s t : ℕ) → s < 2 ^ n → T (overlaps n s t) ↔ Overlap s t
overlaps_iff n s t h = (forth, back)
  where
    forth : T (overlaps n s t) → Overlap s t
    forth y =
        let r = some_below_out n (λ i. member i s && member i t) y in
        record { common = r.0; left = and_l (member r.0 s) (member r.0 t) r.2; right = and_r (member r.0 s) (member r.0 t) r.2 }

    back : Overlap s t → T (overlaps n s t)
    back o =
        some_below_in n (λ i. member i s && member i t) o.common (below_within n s h o.common o.left)
        (and_i (member o.common s) (member o.common t) o.left o.right)

-- with the set of one number
pub overlaps_singleton : (n s i : ℕ) → i < n → overlaps n s (singleton i) ≡ member i s
overlaps_singleton n s i h = same (overlaps n s (singleton i)) (member i s) forth back
  where
    forth : T (overlaps n s (singleton i)) → T (member i s)
    forth y =
        let r = some_below_out n (λ k. member k s && member k (singleton i)) y in
        let one = subst T (member-singleton r.0 i) (and_r (member r.0 s) (member r.0 (singleton i)) r.2) in
        subst (λ (k : ℕ). T (member k s)) (eqb→eq r.0 i one) (and_l (member r.0 s) (member r.0 (singleton i)) r.2)

    back : T (member i s) → T (overlaps n s (singleton i))
    back y =
        some_below_in n (λ k. member k s && member k (singleton i)) i h
        (and_i (member i s) (member i (singleton i)) y (subst T (sym (member-singleton i i)) (eqb_refl i)))

-- the machine's `&`, against 0
pub overlaps_is : (n s t : ℕ) → s < 2 ^ n → not (eqb (bit_and s t) 0) ≡ overlaps n s t
overlaps_is n s t h = same (not (eqb (bit_and s t) 0)) (overlaps n s t) (λ y. forth y (decide (overlaps n s t))) back
  where
    both : (i : ℕ) → T (member i (bit_and s t)) → T (overlaps n s t)
    both i y =
        let z = subst T (member_and i s t) y in
        (overlaps_iff n s t h).1 (record { common = i; left = and_l (member i s) (member i t) z; right = and_r (member i s) (member i t) z })

    forth : T (not (eqb (bit_and s t) 0)) → T (overlaps n s t) ⊎ T (not (overlaps n s t)) → T (overlaps n s t)
    forth y (inl o) = o
    forth y (inr none) =
        absurd (T_not (eqb (bit_and s t) 0) y (rw (no_member (bit_and s t) (λ i m. T_not (overlaps n s t) none (both i m))) (eqb_refl 0)))

    back : T (overlaps n s t) → T (not (eqb (bit_and s t) 0))
    back y =
        let o = (overlaps_iff n s t h).0 y in
        let i : ℕ = o.common in
        let m = subst T (sym (member_and i s t)) (and_i (member i s) (member i t) o.left o.right) in
        not_T (eqb (bit_and s t) 0) (λ z. false_no (member i 0) (member_empty i) (subst (λ (k : ℕ). T (member i k)) (eqb→eq (bit_and s t) 0 z) m))

-- ---- the members as a list

cons_if_out : (b : Bool) (i j : ℕ) (ls : List ℕ) → j ∈ cons_if b i ls → (T b × (j ≡ i)) ⊎ (j ∈ ls)
cons_if_out true i j ls (inl e) = inl (tt, e)
cons_if_out true i j ls (inr m) = inr m
cons_if_out false i j ls m = inr m

cons_if_head : (b : Bool) (i : ℕ) (ls : List ℕ) → T b → i ∈ cons_if b i ls
cons_if_head true i ls t = inl refl
cons_if_head false i ls t = absurd t

cons_if_tail : (b : Bool) (i j : ℕ) (ls : List ℕ) → j ∈ ls → j ∈ cons_if b i ls
cons_if_tail true i j ls m = inr m
cons_if_tail false i j ls m = m

from_out : (d i s j : ℕ) → j ∈ members_from d i s → (i ≤ j) × (j < i + d) × T (member j s)
unfolding members_from
from_out zero i s j m = absurd m
from_out (suc d) i s j m = go (cons_if_out (member i s) i j (members_from d (suc i) s) m) (λ x. from_out d (suc i) s j x)
  where
    go : (T (member i s) × (j ≡ i)) ⊎ (j ∈ members_from d (suc i) s) → (j ∈ members_from d (suc i) s → (suc i ≤ j) × (j < suc i + d) × T (member j s))
        → (i ≤ j) × (j < i + suc d) × T (member j s)
    go (inl e) rest = let q = e.1 in (omega arith, omega arith, subst (λ (k : ℕ). T (member k s)) (sym q) e.0)
    go (inr x) rest = let r = rest x in (omega arith, omega arith, r.2)

from_in : (d i s j : ℕ) → i ≤ j → j < i + d → T (member j s) → j ∈ members_from d i s
unfolding members_from
from_in zero i s j l h t = absurd (omega arith)
from_in (suc d) i s j l h t = go (eq-or-lt_of_le l) (λ x. from_in d (suc i) s j x (omega arith) t)
  where
    go : (i ≡ j) ⊎ (i < j) → (i < j → j ∈ members_from d (suc i) s) → j ∈ members_from (suc d) i s
    go (inl e) rest =
        subst (λ (k : ℕ). k ∈ members_from (suc d) i s) e
        (cons_if_head (member i s) i (members_from d (suc i) s) (subst (λ (k : ℕ). T (member k s)) (sym e) t))
    go (inr x) rest = cons_if_tail (member i s) i j (members_from d (suc i) s) (rest x)

pub members_out : (n s j : ℕ) → j ∈ members n s → (j < n) × T (member j s)
members_out n s j m = let r = from_out n 0 s j m in (omega arith, r.2)

pub members_in : (n s j : ℕ) → j < n → T (member j s) → j ∈ members n s
members_in n s j h t = from_in n 0 s j (omega arith) (omega arith) t

-- ---- exactly one member

members_count : (d i s : ℕ) → length (members_from d i s) ≡ ones_in d (s / 2 ^ i)
unfolding members_from ones_in
members_count zero i s = refl
members_count (suc d) i s =
    count (s / 2 ^ i % 2) (members_from d (suc i) s) (omega arith)
    ∙ ap (λ (k : ℕ). s / 2 ^ i % 2 + k) (members_count d (suc i) s ∙ ap (ones_in d) (sym (shr-shr s i 1 ∙ ap (λ (k : ℕ). s / 2 ^ k) (add-one i))))
  where
    count : (c : ℕ) (ls : List ℕ) → c < 2 → length (cons_if (eqb c 1) i ls) ≡ c + length ls
    count zero ls h = omega arith
    count (suc zero) ls h = omega arith
    count (suc (suc c)) ls h = absurd (omega arith)

ones_in_ones : (d n : ℕ) → n < 2 ^ d → ones_in d n ≡ ones n
unfolding ones_in ones
ones_in_ones zero n h = let z : n ≡ 0 = omega arith in rw z
ones_in_ones (suc d) n h = ap (λ (k : ℕ). n % 2 + k) (ones_in_ones d (n / 2) (omega arith)) ∙ sym (ones_step n)

-- the language's count of ones, against 1
pub single_count : (n s : ℕ) → s < 2 ^ n → eqb (ones s) 1 ≡ single n s
single_count n s h = ap (λ (k : ℕ). eqb k 1) (sym (members_count n 0 s ∙ ap (ones_in n) (div-one s) ∙ ones_in_ones n s h))

pub single_members : (n s : ℕ) → T (single n s) → (r : ℕ) × (members n s ≡ r ∷ [])
single_members n s t = go (members n s) (eqb→eq (length (members n s)) 1 t)
  where
    go : (ls : List ℕ) → length ls ≡ 1 → (r : ℕ) × (ls ≡ r ∷ [])
    go [] e = absurd (omega arith)
    go (x ∷ []) e = (x, refl)
    go (x ∷ y ∷ ls) e = absurd (omega arith)

-- the set is {i} where i is its only member
pub single_is : (s : ℕ) (o : Single s) → s ≡ singleton o.only
single_is s o =
    let fits = below_own_power s in
    ext s s (2 ^ o.only) fits (pow-lt (below_within s s fits o.only o.there)) (λ i l. alike i ∙ sym (member-singleton i o.only))
  where
    alike : (i : ℕ) → member i s ≡ eqb i o.only
    alike i =
        same (member i s) (eqb i o.only) (λ t. subst (λ (k : ℕ). T (eqb i k)) (o.others i t) (eqb_refl i))
        (λ t. subst (λ (k : ℕ). T (member k s)) (sym (eqb→eq i o.only t)) o.there)

ones_power : (k : ℕ) → ones (2 ^ k) ≡ 1
unfolding ones ones_in
ones_power k = let e = ones_cat k 1 0 (pow_pos k) in rw (add-zero (1 * 2 ^ k), one-mul (2 ^ k)) at e

pub single_iff : (n s : ℕ) → s < 2 ^ n → T (single n s) ↔ Single s
single_iff n s h = (forth, back)
  where
    forth : T (single n s) → Single s
    forth t =
        let r = single_members n s t in
        let i : ℕ = r.0 in
        record {
          only = i;
          there = (members_out n s i (rw r.1 (inl refl))).1;
          others = λ j m. one i j (subst (λ (ls : List ℕ). j ∈ ls) r.1 (members_in n s j (below_within n s h j m) m));
        }
      where
        one : (i j : ℕ) → j ∈ (i ∷ []) → j ≡ i
        one i j (inl e) = e
        one i j (inr e) = absurd e

    back : Single s → T (single n s)
    back o = subst T (single_count n s h) (let e : ones s ≡ 1 = ap ones (single_is s o) ∙ ones_power o.only in rw e (eqb_refl 1))

-- `s >> n == 0`
pub within_is : (n s : ℕ) → eqb (s / 2 ^ n) 0 ≡ within n s
within_is n s =
    same (eqb (s / 2 ^ n) 0) (within n s) (λ t. lt→ltb s (2 ^ n) (quotient_below n s (eqb→eq (s / 2 ^ n) 0 t)))
    (λ t. rw (div-eq_of_lt (ltb→lt s (2 ^ n) t)) (eqb_refl 0))

-- every u16 is within 16 and more
pub within_wide : (n s : ℕ) → s < 2 ^ 16 → 16 ≤ n → leb 16 n ≡ within n s
within_wide n s h l =
    let p : 2 ^ 16 ≤ 2 ^ n = pow_mono l in
    le-leb 16 n l ∙ sym (lt-ltb s (2 ^ n) (omega arith))

-- ---- the machine's shift `1 << n` is 2 ^ n modulo m, where m is one more than the largest number of its type

module _ (k m n s : ℕ) (h : n ≤ k) (fits : T (ltb (2 ^ k) m)) where
  full : 1 * 2 ^ n % m ≡ 2 ^ n
  full = let l : 2 ^ n ≤ 2 ^ k = pow_mono h in let g = ltb→lt (2 ^ k) m fits in shift_exact m n (omega arith)

  pub complement_shift : 1 * 2 ^ n % m - 1 - s % (1 * 2 ^ n % m) ≡ complement n s
  complement_shift = rw full (complement_is n s)

-- for a loop that gathers a set
pub ruleset gathering = (set_of_none, set_of_put, set_of_skip, set_of_end)

-- for the functions of this crate
pub ruleset kit = (
  union_is,
  intersection_is,
  overlaps_is,
  single_count,
  within_is,
  within_wide,
  complement_shift,
)

-- Finding, counting and comparing fields, as the loops do it; and that a field's place selects it.
-- Assumes nothing.
use mathlib.Core.Path.{◌≡◌, refl, sym, ap, ap₂, ◌∙◌, subst}
use mathlib.Core.Bool.{Bool, true, false, cond, ◌&&◌}
use mathlib.Core.List.{List, [], ◌∷◌}
use mathlib.Core.Logic.{◌↔◌}
use Prim.Native.Nat.{ℕ, suc, ◌+◌, ◌-◌, ◌^◌, ◌≤◌, ◌<◌}
use native.Mathlib.Omega.{arith}
use native.Mathlib.Nat.{zero-add}
use borrow.Author.Tests.{lt-ltb, le-ltb, ltb-true, ltb-false, eqb-true, eqb-false}
use lib.Dec.{T, eqb, ltb, eqb→eq, eqb_refl}
use lib.ListN.{length, get_or, take, drop, length-drop}
use lib.Seq.{drop-drop, length-take-le}
use Rattle.text.specs.Split.{prepend, split, first_part}
use Rattle.fields.specs.Fields.{part_start, part_at, field_of, same_bytes}
use Rattle.std.specs.Prelude.{Option, Some, None, not, unwrap_or, position, count_by}
use Rattle.std.specs.List.{prefix_len}
use Rattle.std.proofs.lemmas.List.Sums.{prefix_len-le-length, sum_by-cons}
use Rattle.lists.proofs.Parts.{rest_part}
use Rattle.text.proofs.SplitLaws.{split_at, split_on, split_empty, split_some, split_last, split_next, first_short, joined_split}
use Rattle.fields.proofs.PlaceLaws.{start_next, part_there, part_inside}

-- ---- how long the first field is

pub first_empty : (b : ℕ) → first_part b [] ≡ []
first_empty b = ap (λ (ps : List (List ℕ)). get_or ps 0 []) (split_empty b)

pub first_at : (b x : ℕ) (xs : List ℕ) → x ≡ b → first_part b (x ∷ xs) ≡ []
first_at b x xs e = ap (λ (ps : List (List ℕ)). get_or ps 0 []) (split_at b x xs e)

pub first_on : (b x : ℕ) (xs : List ℕ) → (x ≡ b → ⊥) → first_part b (x ∷ xs) ≡ x ∷ first_part b xs
first_on b x xs n =
    let s = split_some b xs in
    ap (λ (ps : List (List ℕ)). get_or ps 0 []) (split_on b x xs n ∙ ap (prepend x) s.2)
    ∙ sym (ap (λ (ps : List (List ℕ)). x ∷ get_or ps 0 []) s.2)

-- It is as long as the bytes before the first separator.
first_prefix : (b : ℕ) (l : List ℕ) → prefix_len (λ x. not (eqb x b)) l ≡ length (first_part b l)
first_prefix b [] = sym (ap length (first_empty b))
first_prefix b (x ∷ xs) = go (eqb x b) refl (first_prefix b xs)
  where
    go : (t : Bool) → eqb x b ≡ t → prefix_len (λ y. not (eqb y b)) xs ≡ length (first_part b xs)
        → cond (not t) (1 + prefix_len (λ y. not (eqb y b)) xs) 0 ≡ length (first_part b (x ∷ xs))
    go true e r = sym (ap length (first_at b x xs (eqb-true x b e)))
    go false e r = let f = ap length (first_on b x xs (eqb-false x b e)) in omega arith

pub first_position : (b : ℕ) (l : List ℕ) → unwrap_or (position (λ x. eqb x b) l) (length l) ≡ length (first_part b l)
first_position b l = go (prefix_len (λ x. not (eqb x b)) l) (first_prefix b l) (prefix_len-le-length (λ x. not (eqb x b)) l)
  where
    go : (n : ℕ) → n ≡ length (first_part b l) → n ≤ length l → unwrap_or (cond (ltb n (length l)) (Some n) None) (length l) ≡ length (first_part b l)
    go n e h = at_or_end (ltb n (length l)) refl
      where
        at_or_end : (t : Bool) → ltb n (length l) ≡ t → unwrap_or (cond t (Some n) None) (length l) ≡ length (first_part b l)
        at_or_end true q = e
        at_or_end false q = let k = ltb-false n (length l) q in omega arith

-- ---- how many fields there are

length_prepend : (x : ℕ) (ps : List (List ℕ)) → 0 < length ps → length (prepend x ps) ≡ length ps
length_prepend x [] h = absurd (omega arith)
length_prepend x (p ∷ ps) h = refl

pub count_some : (b : ℕ) (l : List ℕ) → 0 < length (split b l)
count_some b l = let s = split_some b l in let e = ap length s.2 in omega arith

-- One more than there are separators.
count_snoc : (b x : ℕ) (xs : List ℕ) → length (split b (x ∷ xs)) ≡ cond (eqb x b) 1 0 + length (split b xs)
count_snoc b x xs = go (eqb x b) refl
  where
    go : (t : Bool) → eqb x b ≡ t → length (split b (x ∷ xs)) ≡ cond t 1 0 + length (split b xs)
    go true e = let f = ap length (split_at b x xs (eqb-true x b e)) in omega arith
    go false e = let f = ap length (split_on b x xs (eqb-false x b e)) ∙ length_prepend x (split b xs) (count_some b xs) in omega arith

pub count_separators : (b : ℕ) (l : List ℕ) → count_by (λ x. eqb x b) l + 1 ≡ length (split b l)
count_separators b [] = sym (ap length (split_empty b))
count_separators b (x ∷ xs) =
    let r = count_separators b xs in
    let e = sum_by-cons (λ y. cond (eqb y b) 1 0) x xs in
    let f = count_snoc b x xs in
    omega arith

pub ruleset count_kit = (count_separators)

-- ---- where a field stands

-- The field with index i of parts that begin at the place a.
pub part_from : ℕ → List (List ℕ) → ℕ → Option (ℕ × ℕ)
part_from a ps i = cond (ltb i (length ps)) (Some (a + part_start ps i, a + part_start ps i + length (get_or ps i []))) None

from_start : (ps : List (List ℕ)) (i : ℕ) → part_at ps i ≡ part_from 0 ps i
unfolding part_from
from_start ps i = rw zero-add

from_one : (a j : ℕ) (p : List ℕ) → 0 < j → part_from a (p ∷ []) j ≡ None
unfolding part_from
from_one a j p h = simp (le-ltb j 1 (omega arith))

from_first : (a : ℕ) (p : List ℕ) (ps : List (List ℕ)) → part_from a (p ∷ ps) 0 ≡ Some (a, a + length p)
unfolding part_from part_start
from_first a p ps = simp (lt-ltb 0 (suc (length ps)) (omega arith)) (let e : a + 0 ≡ a = omega arith in rw e)

from_next : (a j : ℕ) (p : List ℕ) (ps : List (List ℕ)) → part_from a (p ∷ ps) (suc j) ≡ part_from (a + length p + 1) ps j
unfolding part_from
from_next a j p ps = go (ltb j (length ps)) refl
  where
    e : a + part_start (p ∷ ps) (suc j) ≡ a + length p + 1 + part_start ps j
    e = let z = start_next p ps j in omega arith

    go : (t : Bool) → ltb j (length ps) ≡ t → part_from a (p ∷ ps) (suc j) ≡ part_from (a + length p + 1) ps j
    go true q = rw (lt-ltb (suc j) (suc (length ps)) (let l = ltb-true j (length ps) q in omega arith), q, e)
    go false q = rw (le-ltb (suc j) (suc (length ps)) (let l = ltb-false j (length ps) q in omega arith), q)

module _ (b : ℕ) (l : List ℕ) (index at i : ℕ) (inside : at ≤ length l) (inv : field_of b l index ≡ part_from at (split b (drop at l)) (index - i)) where
  module _ (n : ℕ) (given : n ≡ length (first_part b (take (length l - at) (drop at l)))) where
    f : n ≡ length (first_part b (drop at l))
    f = given ∙ ap (λ (m : List ℕ). length (first_part b m)) (rest_part l at)

    pub field_none : i < index → n ≡ length l - at → None ≡ field_of b l index
    field_none h e =
        let z : length (first_part b (drop at l)) ≡ length (drop at l) = sym f ∙ e ∙ sym (length-drop at l) in
        sym (inv ∙ ap (λ (ps : List (List ℕ)). part_from at ps (index - i)) (split_last b (drop at l) z) ∙ from_one at (index - i) (drop at l) (omega arith))

    short : (n ≡ length l - at → ⊥) → n < length l - at
    short ne = let k = first_short b (drop at l) in let d = length-drop at l in let g = f in omega arith

    pub field_next : i < index → (n ≡ length l - at → ⊥) → field_of b l index ≡ part_from (at + n + 1) (split b (drop (at + n + 1) l)) (index - (i + 1))
    field_next h ne =
        let s = split_next b (drop at l) (λ z. ne (f ∙ z ∙ length-drop at l)) in
        let j : index - i ≡ suc (index - (i + 1)) = omega arith in
        let m : at + (n + 1) ≡ at + n + 1 = omega arith in
        let w = short ne in
        let t : length (take n (drop at l)) ≡ n = length-take-le n (drop at l) (let d = length-drop at l in omega arith) in
        inv ∙ ap₂ (λ (ps : List (List ℕ)) (k : ℕ). part_from at ps k) (s ∙ rw (sym f) refl) j
        ∙ from_next at (index - (i + 1)) (take n (drop at l)) (split b (drop (n + 1) (drop at l)))
        ∙ ap₂ (λ (k : ℕ) (r : List ℕ). part_from (at + k + 1) (split b r) (index - (i + 1))) t (drop-drop (n + 1) at l ∙ ap (λ (k : ℕ). drop k l) m)

    pub field_here : i ≤ index → index ≤ i → Some (at, at + n) ≡ field_of b l index
    field_here h k =
        let j : index - i ≡ 0 = omega arith in
        let s = split_some b (drop at l) in
        let g : first_part b (drop at l) ≡ s.0 = ap (λ (ps : List (List ℕ)). get_or ps 0 []) s.2 in
        sym (inv ∙ ap₂ (λ (ps : List (List ℕ)) (m : ℕ). part_from at ps m) s.2 j ∙ from_first at s.0 s.1 ∙ ap (λ (m : ℕ). Some (at, at + m)) (sym (f ∙ ap length g)))

    pub next_inside : (n ≡ length l - at → ⊥) → at + n + 1 ≤ length l
    next_inside ne = let w = short ne in omega arith

    pub next_fits : (n ≡ length l - at → ⊥) → length l < 2 ^ 64 → at + n + 1 < 2 ^ 64
    next_fits ne h = let w = short ne in omega arith

    pub end_fits : length l < 2 ^ 64 → at + n < 2 ^ 64
    end_fits h = let k = first_short b (drop at l) in let d = length-drop at l in let g = f in omega arith

pub field_start : (b : ℕ) (l : List ℕ) (index : ℕ) → field_of b l index ≡ part_from 0 (split b (drop 0 l)) (index - 0)
field_start b l index = from_start (split b l) index ∙ ap (part_from 0 (split b l)) (let e : index ≡ index - 0 = omega arith in e)

pub ruleset field_kit = (field_none, field_next, field_here, next_inside, next_fits, end_fits, field_start)

-- A field's place selects it: the bytes from x up to y are the field with index i, and they lie in the line.
pub record Selects (b : ℕ) (l : List ℕ) (i x y : ℕ) : Type 0 where
  pub counted : i < length (split b l)
  pub ordered : x ≤ y
  pub inside : y ≤ length l
  pub bytes : take (y - x) (drop x l) ≡ get_or (split b l) i []

-- The two numbers of a place that is there.
from_of : Option (ℕ × ℕ) → ℕ
from_of None = 0
from_of (Some p) = p.0

to_of : Option (ℕ × ℕ) → ℕ
to_of None = 0
to_of (Some p) = p.1

pub field_selects : (b : ℕ) (l : List ℕ) (i x y : ℕ) → field_of b l i ≡ Some (x, y) → Selects b l i x y
unfolding from_of to_of
field_selects b l i x y e = go (ltb i (length (split b l))) refl e
  where
    go : (t : Bool) → ltb i (length (split b l)) ≡ t
        → cond {A = Option (ℕ × ℕ)} t (Some (part_start (split b l) i, part_start (split b l) i + length (get_or (split b l) i []))) None ≡ Some (x, y) → Selects b l i x y
    go true q f =
        let h = ltb-true i (length (split b l)) q in
        let p : part_start (split b l) i ≡ x = ap from_of f in
        let r : part_start (split b l) i + length (get_or (split b l) i []) ≡ y = ap to_of f in
        let n : y - x ≡ length (get_or (split b l) i []) = omega arith in
        let k = part_inside b (split b l) i h in
        let s = ap length (joined_split b l) in
        record {
          counted = h;
          ordered = omega arith;
          inside = omega arith;
          bytes =
              rw (n, sym p) (ap (λ (m : List ℕ). take (length (get_or (split b l) i [])) (drop (part_start (split b l) i) m)) (sym (joined_split b l))
              ∙ part_there b (split b l) i h);
        }
    go false q f = let z : ◌≡◌ {A = ℕ} 0 1 = cc in absurd (omega arith)

pub field_missing : (b : ℕ) (l : List ℕ) (i : ℕ) → field_of b l i ≡ None → length (split b l) ≤ i
field_missing b l i e = go (ltb i (length (split b l))) refl e
  where
    go : (t : Bool) → ltb i (length (split b l)) ≡ t
        → cond {A = Option (ℕ × ℕ)} t (Some (part_start (split b l) i, part_start (split b l) i + length (get_or (split b l) i []))) None ≡ None → length (split b l) ≤ i
    go true q f = let z : ◌≡◌ {A = ℕ} 0 1 = cc in absurd (omega arith)
    go false q f = ltb-false i (length (split b l)) q

-- ---- the same bytes

same_self : (a : List ℕ) → T (same_bytes a a)
same_self [] = tt
same_self (x ∷ xs) = go (eqb x x) (eqb_refl x) (same_self xs)
  where
    go : (t : Bool) → T t → T (same_bytes xs xs) → T (t && same_bytes xs xs)
    go true h k = k
    go false h k = absurd h

same_out : (a b : List ℕ) → T (same_bytes a b) → a ≡ b
same_out [] [] t = refl
same_out [] (y ∷ ys) t = absurd t
same_out (x ∷ xs) [] t = absurd t
same_out (x ∷ xs) (y ∷ ys) t = go (eqb x y) refl t (same_out xs ys)
  where
    go : (s : Bool) → eqb x y ≡ s → T (s && same_bytes xs ys) → (T (same_bytes xs ys) → xs ≡ ys) → x ∷ xs ≡ y ∷ ys
    go true e u rest = ap₂ (λ (z : ℕ) (zs : List ℕ). z ∷ zs) (eqb→eq x y (subst T (sym e) tt)) (rest u)
    go false e u rest = absurd u

pub same_agrees : (a b : List ℕ) → T (same_bytes a b) ↔ (a ≡ b)
same_agrees a b = (same_out a b, λ e. subst (λ (c : List ℕ). T (same_bytes a c)) e (same_self a))

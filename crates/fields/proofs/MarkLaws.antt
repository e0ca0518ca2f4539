-- Marking the fields of a line, one after the other, and finding a field by its marks.
-- Assumes nothing.
use mathlib.Core.Path.{◌≡◌, refl, sym, ap, ◌∙◌}
use mathlib.Core.List.{List, [], ◌∷◌}
use Prim.Native.Nat.{ℕ, zero, suc, ◌+◌, ◌-◌, ◌*◌, ◌^◌, ◌≤◌, ◌<◌}
use native.Mathlib.Omega.{arith}
use native.Mathlib.Decide.{ℕ_discrete}
use native.Mathlib.Numerals.{add-one}
use borrow.Author.Tests.{lt-ltb, le-ltb}
use lib.ListN.{length, get_or, take, drop, set, length-set, length-drop}
use lib.Seq.{length-take-le, set_out, get_or-set_same, get_or-set_other}
use Rattle.text.specs.Split.{split, first_part}
use Rattle.fields.specs.Fields.{part_start, part_at, FieldsMarked}
use Rattle.std.specs.Prelude.{Some, None}
use Rattle.fields.proofs.PlaceLaws.{start_none, start_next}
use Rattle.fields.proofs.PartLaws.{parts_from, parts_all, parts_none, parts_step, part_in, part_kit}

-- ---- a mark for which there is no room

pub no_room : (l : List ℕ) (i x : ℕ) → length l ≤ i → l ≡ set l i x
no_room l i x h = sym (set_out l i x h)

pub ruleset mark_kit = (no_room)

-- ---- where the next part begins

start_add : (ps : List (List ℕ)) (i : ℕ) → i < length ps → part_start ps (suc i) ≡ part_start ps i + length (get_or ps i []) + 1
start_add [] i h = absurd (omega arith)
start_add (p ∷ ps) zero h = let e = start_next p ps 0 in let z = start_none ps in let y = start_none (p ∷ ps) in omega arith
start_add (p ∷ ps) (suc i) h =
    let e = start_next p ps (suc i) in
    let f = start_next p ps i in
    let r = start_add ps i (omega arith) in
    omega arith

-- What begins with the part i: that part is there, and what follows it.
pub drop_at : (ps : List (List ℕ)) (i : ℕ) (p : List ℕ) (rest : List (List ℕ)) → drop i ps ≡ p ∷ rest
    → (i < length ps) × (get_or ps i [] ≡ p) × (drop (suc i) ps ≡ rest)
drop_at [] zero p rest e = let z : ◌≡◌ {A = ℕ} 0 1 = cc in absurd (omega arith)
drop_at [] (suc i) p rest e = let z : ◌≡◌ {A = ℕ} 0 1 = cc in absurd (omega arith)
drop_at (q ∷ ps) zero p rest e = (omega arith, cc, cc)
drop_at (q ∷ ps) (suc i) p rest e = let r = drop_at ps i p rest e in (let h = r.0 in omega arith, r.1, r.2)

part_length : (b : ℕ) (l : List ℕ) (at n : ℕ) → at ≤ length l → n ≡ length (first_part b (take (length l - at) (drop at l)))
    → length (take (at + n - at) (drop at l)) ≡ n
part_length b l at n inside given =
    let p = part_in b l at n inside given in
    let d = length-drop at l in
    let z : at + n - at ≡ n = omega arith in
    rw z (length-take-le n (drop at l) (omega arith))

-- ---- the turns

-- The first i fields are marked, and the place after them is reached.
pub record Marking (b : ℕ) (l : List ℕ) (i at : ℕ) (starts : List ℕ) : Type 0 where
  pub place : at ≡ part_start (split b l) i
  pub rest : drop i (split b l) ≡ parts_from b l at
  pub few : i ≤ length (split b l)
  pub done : (j : ℕ) → j < i → j < length starts → get_or starts j 0 ≡ part_start (split b l) j

pub marking_start : (b : ℕ) (l marks : List ℕ) → Marking b l 0 0 marks
marking_start b l marks = record {
  place = sym (start_none (split b l));
  rest = parts_all b l;
  few = omega arith;
  done = λ j h k. absurd (omega arith);
}

-- One mark more is put down.
put_down : (b : ℕ) (l : List ℕ) (i at : ℕ) (starts new : List ℕ) → Marking b l i at starts → new ≡ set starts i at
    → (j : ℕ) → j < i + 1 → j < length new → get_or new j 0 ≡ part_start (split b l) j
put_down b l i at starts new m e j h k = go (ℕ_discrete j i)
  where
    len : length new ≡ length starts
    len = ap length e ∙ length-set starts i at

    go : Dec (j ≡ i) → get_or new j 0 ≡ part_start (split b l) j
    go (yes q) = let c = len in rw (q, e) (get_or-set_same starts i at 0 (omega arith) ∙ m.place)
    go (no q) = let c = len in rw e (get_or-set_other starts i j at 0 (λ z. q (omega arith)) ∙ m.done j (omega arith) (omega arith))

module _ (b : ℕ) (l : List ℕ) (i at : ℕ) (starts new : List ℕ) (m : Marking b l i at starts) (put : new ≡ set starts i at) where
  pub marking_next : (n : ℕ) → at ≤ length l → n ≡ length (first_part b (take (length l - at) (drop at l))) → Marking b l (i + 1) (at + n + 1) new
  marking_next n inside given =
      let s = m.rest ∙ parts_step b l at n inside given in
      let d = drop_at (split b l) i _ _ s in
      let w : length (take (at + n - at) (drop at l)) ≡ n = part_length b l at n inside given in
      let a = start_add (split b l) i d.0 in
      let g = ap length d.1 in
      let p = m.place in
      let o = add-one i in
      record {
        place = rw (add-one i) (omega arith);
        rest = rw (add-one i) d.2;
        few = let h = d.0 in omega arith;
        done = put_down b l i at starts new m put;
      }

  marked_all : length l < at → FieldsMarked b l i new
  marked_all past =
      let z : drop i (split b l) ≡ [] = m.rest ∙ parts_none b l at past in
      let q = ap length z in
      let d = length-drop i (split b l) in
      let f = m.few in
      let c : i ≡ length (split b l) = omega arith in
      record {
        counted = c;
        begins = λ j h k. put_down b l i at starts new m put j (omega arith) k;
      }

-- The last mark: the walk over the fields ends one place behind the line's end.
pub marking_end : (b : ℕ) (l : List ℕ) (i at : ℕ) (starts new : List ℕ) → Marking b l i at starts → at ≤ length l + 1 → length l < at
    → new ≡ set starts i (length l + 1) → FieldsMarked b l i new
marking_end b l i at starts new m inside past put =
    let e : length l + 1 ≡ at = omega arith in
    marked_all b l i at starts new m (put ∙ ap (λ (x : ℕ). set starts i x) e) past

module _ (l : List ℕ) (i at : ℕ) where
  pub count_fits : i ≤ at → at ≤ length l → length l * 1 < 2 ^ 63 → i + 1 < 2 ^ 64
  count_fits h inside k = omega arith

  pub last_fits : i ≤ at → at ≤ length l + 1 → length l * 1 < 2 ^ 63 → i + 1 < 2 ^ 64
  last_fits h inside k = omega arith

  pub count_in : (n : ℕ) → i ≤ at → i + 1 ≤ at + n + 1
  count_in n h = omega arith

pub length_kept : (old starts new : List ℕ) (i x : ℕ) → length starts ≡ length old → new ≡ set starts i x → length new ≡ length old
length_kept old starts new i x k e = ap length e ∙ length-set starts i x ∙ k

pub ruleset marking_kit = (length_kept, marking_start, marking_next, marking_end, count_fits, last_fits, count_in, part_kit)

-- ---- a field by its marks

module _ (b : ℕ) (l : List ℕ) (count : ℕ) (starts : List ℕ) (index : ℕ) (m : FieldsMarked b l count starts) where
  pub marked_count : count ≡ length (split b l)
  marked_count = m.counted

  pub marked_missing : count ≤ index → None ≡ part_at (split b l) index
  marked_missing h = let c = m.counted in sym (simp (le-ltb index (length (split b l)) (omega arith)))

  module _ (inside : index < count) (room : index + 1 < length starts) where
    begins : get_or starts index 0 ≡ part_start (split b l) index
    begins = let c = m.counted in m.begins index (omega arith) (omega arith)

    ends : get_or starts (index + 1) 0 ≡ part_start (split b l) index + length (get_or (split b l) index []) + 1
    ends =
        let c = m.counted in
        let s = m.begins (index + 1) (omega arith) (omega arith) in
        let t = start_add (split b l) index (omega arith) in
        (s ∙ (rw (add-one index) t))

    pub marked_later : 1 ≤ get_or starts (index + 1) 0
    marked_later = let e = ends in omega arith

    pub marked_found : Some (get_or starts index 0, get_or starts (index + 1) 0 - 1) ≡ part_at (split b l) index
    marked_found =
        let c = m.counted in
        let f : get_or starts (index + 1) 0 - 1 ≡ part_start (split b l) index + length (get_or (split b l) index []) = let e = ends in omega arith in
        sym (simp (lt-ltb index (length (split b l)) (omega arith)) (rw (begins, f) refl))

pub ruleset marked_kit = (marked_count, marked_missing, marked_later, marked_found)

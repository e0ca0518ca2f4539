-- The first line: the place of a name, field by field, and along the line.
-- Assumes nothing.
use mathlib.Core.Path.{◌≡◌, refl, sym, ap, ◌∙◌}
use mathlib.Core.Bool.{Bool, true, false}
use mathlib.Core.List.{List, [], ◌∷◌}
use Prim.Native.Nat.{ℕ, suc, ◌+◌, ◌-◌, ◌≤◌, ◌<◌}
use native.Mathlib.Omega.{arith}
use native.Mathlib.Decide.{ℕ_discrete}
use native.Mathlib.Numerals.{add-one}
use lib.ListN.{length, take, drop, get_or, length-drop, drop_of_length-le}
use lib.Seq.{drop-cons}
use Rattle.text.specs.Split.{split, first_part}
use Rattle.fields.specs.Fields.{same_bytes}
use Rattle.fields.proofs.MarkLaws as marks
use Rattle.fields.proofs.PartLaws.{parts_from, parts_all, parts_none, parts_step, next_in, part_kit}
use Rattle.log_line.specs.Header.{place_of}

-- ---- the place of a name, field by field

place_nil : (name : List ℕ) → place_of name [] ≡ 0
unfolding place_of
place_nil name = refl

place_here : (name f : List ℕ) (fs : List (List ℕ)) → same_bytes f name ≡ true → place_of name (f ∷ fs) ≡ 0
unfolding place_of
place_here name f fs e = rw e

place_next : (name f : List ℕ) (fs : List (List ℕ)) → same_bytes f name ≡ false → place_of name (f ∷ fs) ≡ suc (place_of name fs)
unfolding place_of
place_next name f fs e = rw e

pub place_start : (name : List ℕ) (fs : List (List ℕ)) → place_of name fs ≡ 0 + place_of name (drop 0 fs)
place_start name fs = omega arith

module _ (name : List ℕ) (fs : List (List ℕ)) (i : ℕ) (inv : place_of name fs ≡ i + place_of name (drop i fs)) (n : ℕ) (count : n ≡ length fs) where
  pub place_none : n ≤ i → i ≤ n → n ≡ place_of name fs
  place_none h k = let e = ap (place_of name) (drop_of_length-le fs {i = i} (omega arith)) ∙ place_nil name in omega arith

  module _ (h : i < n) (f : List ℕ) (given : f ≡ get_or fs i []) (t : Bool) (said : t ≡ same_bytes f name) where
    here : drop i fs ≡ f ∷ drop (i + 1) fs
    here = drop-cons fs i [] (omega arith) ∙ ap (λ (k : ℕ). get_or fs i [] ∷ drop k fs) (sym (add-one i)) ∙ ap (λ (g : List ℕ). g ∷ drop (i + 1) fs) (sym given)

    pub place_found : t ≡ true → i ≡ place_of name fs
    place_found p = let e = ap (place_of name) here ∙ place_here name f _ (sym said ∙ p) in omega arith

    pub place_more : t ≡ false → place_of name fs ≡ i + 1 + place_of name (drop (i + 1) fs)
    place_more p = let e = ap (place_of name) here ∙ place_next name f _ (sym said ∙ p) in omega arith

pub ruleset place_kit = (place_start, place_none, place_found, place_more)

-- ---- the place of a name, along the line

-- The first i fields are other names, and the place after them is reached.
pub record Sought (name l : List ℕ) (i at : ℕ) : Type 0 where
  pub inside : at ≤ length l + 1
  pub rest : drop i (split 32 l) ≡ parts_from 32 l at
  pub before : place_of name (split 32 l) ≡ i + place_of name (drop i (split 32 l))

pub sought_start : (name l : List ℕ) → Sought name l 0 0
sought_start name l = record { inside = omega arith; rest = parts_all 32 l; before = place_start name (split 32 l) }

drop_at : (ps : List (List ℕ)) (i : ℕ) (p : List ℕ) (rest : List (List ℕ)) → drop i ps ≡ p ∷ rest → drop (suc i) ps ≡ rest
drop_at ps i p rest e = (marks.drop_at ps i p rest e).2

module _ (name l : List ℕ) (i at : ℕ) (s : Sought name l i at) (count : ℕ) (counted : count ≡ length (split 32 l)) where
  pub sought_none : count ≤ i → i ≤ count → count ≡ place_of name (split 32 l)
  sought_none h k = place_none name (split 32 l) i s.before count counted h k

  module _ (h : i < count) where
    pub field_there : at ≤ length l
    field_there = go (ℕ_discrete at (length l + 1))
      where
        go : Dec (at ≡ length l + 1) → at ≤ length l
        go (yes e) =
            let z = ap length (s.rest ∙ parts_none 32 l at (omega arith)) in let d = length-drop i (split 32 l) in absurd (omega arith)
        go (no e) = let k = s.inside in omega arith

    module _ (n : ℕ) (given : n ≡ length (first_part 32 (take (length l - at) (drop at l)))) where
      sought_here : drop i (split 32 l) ≡ take (at + n - at) (drop at l) ∷ parts_from 32 l (at + n + 1)
      sought_here = s.rest ∙ parts_step 32 l at n field_there given

      field_is : take (at + n - at) (drop at l) ≡ get_or (split 32 l) i []
      field_is = sym (marks.drop_at (split 32 l) i _ _ sought_here).1

      module _ (t : Bool) (said : t ≡ same_bytes (take (at + n - at) (drop at l)) name) where
        pub sought_found : t ≡ true → i ≡ place_of name (split 32 l)
        sought_found p = place_found name (split 32 l) i s.before count counted h _ field_is t said p

        pub sought_more : t ≡ false → Sought name l (i + 1) (at + n + 1)
        sought_more p =
            record {
              inside = next_in 32 l at n field_there given;
              rest = rw (add-one i) (drop_at (split 32 l) i _ _ sought_here);
              before = place_more name (split 32 l) i s.before count counted h _ field_is t said p;
            }

pub ruleset sought_kit = (sought_start, sought_none, field_there, sought_found, sought_more, part_kit)

-- The names of a header: which columns they name, and which name is wrong, as the code finds out.
-- Assumes nothing.
use mathlib.Core.Path.{◌≡◌, refl, sym, ap, ◌∙◌, subst}
use mathlib.Core.Bool.{Bool, true, false, not, ◌&&◌, ◌||◌}
use mathlib.Core.List.{List, [], ◌∷◌}
use Prim.Native.Nat.{ℕ, zero, suc, ◌≤◌, ◌<◌}
use native.Mathlib.Omega.{arith}
use borrow.Author.Tests.{ltb-true, ltb-false, eqb-true, eqb-false}
use lib.Dec.{T, eqb, ltb}
use lib.ListN.{length, get_or}
use Rattle.lists.proofs.LeftmostLaws.{clash}
use Rattle.fields.specs.Fields.{same_bytes}
use Rattle.fields.proofs.FieldLaws.{same_agrees}
use Rattle.log_line.specs.Header.{vertex_name, board_name, labels_name, preds_name, place_of, Columns, columns_of}
use Rattle.log_places.specs.Place.{is_column, wrong_name}
use Rattle.log_places.specs.inner.Names.{is_place}

-- ---- the place of a name

place_next : (name f : List ℕ) (fs : List (List ℕ)) → same_bytes f name ≡ false → place_of name (f ∷ fs) ≡ suc (place_of name fs)
unfolding place_of
place_next name f fs e = rw e

place_here : (name f : List ℕ) (fs : List (List ℕ)) → same_bytes f name ≡ true → place_of name (f ∷ fs) ≡ 0
unfolding place_of
place_here name f fs e = rw e

-- The field there is the name.
pub place_names : (name : List ℕ) (fs : List (List ℕ)) → place_of name fs < length fs → same_bytes (get_or fs (place_of name fs) []) name ≡ true
place_names name [] h = absurd (omega arith)
place_names name (f ∷ fs) h = go (same_bytes f name) refl (λ k. place_names name fs k)
  where
    go : (t : Bool) → same_bytes f name ≡ t → (place_of name fs < length fs → same_bytes (get_or fs (place_of name fs) []) name ≡ true)
        → same_bytes (get_or (f ∷ fs) (place_of name (f ∷ fs)) []) name ≡ true
    go true e rest = rw (place_here name f fs e) e
    go false e rest = let p = place_next name f fs e in rw p (rest (omega arith))

-- No field that is the name stands before it.
pub place_first : (name : List ℕ) (fs : List (List ℕ)) (i : ℕ) → i < length fs → same_bytes (get_or fs i []) name ≡ true → place_of name fs ≤ i
place_first name [] i h e = absurd (omega arith)
place_first name (f ∷ fs) zero h e = let p = place_here name f fs e in omega arith
place_first name (f ∷ fs) (suc i) h e = go (same_bytes f name) refl (place_first name fs i (omega arith) e)
  where
    go : (t : Bool) → same_bytes f name ≡ t → place_of name fs ≤ i → place_of name (f ∷ fs) ≤ suc i
    go true d k = let p = place_here name f fs d in omega arith
    go false d k = let p = place_next name f fs d in omega arith

pub same_is : (f name : List ℕ) → same_bytes f name ≡ true → f ≡ name
same_is f name e = (same_agrees f name).0 (subst T (sym e) tt)

-- ---- a name stands at its place just where it is the one named, and stands there first

module _ (fs : List (List ℕ)) (i : ℕ) (h : i < length fs) where
  abbrev here : List ℕ
  here = get_or fs i []

  abbrev before : Bool
  before = ltb (place_of here fs) i

  at_place : (name : List ℕ) → eqb i (place_of name fs) ≡ (same_bytes here name && not before)
  at_place name = go (eqb i (place_of name fs)) refl (same_bytes here name) refl before refl
    where
      go : (a : Bool) → eqb i (place_of name fs) ≡ a → (b : Bool) → same_bytes here name ≡ b → (c : Bool) → before ≡ c → a ≡ (b && not c)
      go true p true q false r = refl
      go true p true q true r =
          let j = eqb-true i (place_of name fs) p in
          let n = ap (λ (f : List ℕ). place_of f fs) (same_is here name q) in
          let k = ltb-true (place_of here fs) i r in
          absurd (omega arith)
      go true p false q c r =
          let j = eqb-true i (place_of name fs) p in
          clash (same_bytes here name) (subst (λ (m : ℕ). same_bytes (get_or fs m []) name ≡ true) (sym j) (place_names name fs (omega arith))) q
      go false p true q false r =
          let j = eqb-false i (place_of name fs) p in
          let n = ap (λ (f : List ℕ). place_of f fs) (same_is here name q) in
          let k = ltb-false (place_of here fs) i r in
          let m = place_first name fs i h q in
          absurd (j (omega arith))
      go false p true q true r = refl
      go false p false q c r = refl

  join : (a b n : Bool) → ((a && n) || (b && n)) ≡ ((a || b) && n)
  join true true true = refl
  join true true false = refl
  join true false true = refl
  join true false false = refl
  join false true true = refl
  join false true false = refl
  join false false true = refl
  join false false false = refl

  place_column : is_place (columns_of fs) i ≡ (is_column here && not before)
  place_column =
      rw (at_place vertex_name, at_place board_name, at_place labels_name, at_place preds_name)
      (rw (join (same_bytes here labels_name) (same_bytes here preds_name) (not before))
      (rw (join (same_bytes here board_name) (same_bytes here labels_name || same_bytes here preds_name) (not before))
      (join (same_bytes here vertex_name) (same_bytes here board_name || (same_bytes here labels_name || same_bytes here preds_name)) (not before))))

  dual : (a b n : Bool) → (not (a && not b) || n) ≡ (not a || (b || n))
  dual true true n = refl
  dual true false n = refl
  dual false b n = refl

  pub name_wrong : (c : Columns) → c ≡ columns_of fs → (r : Bool) → r ≡ (not (is_place c i) || not (ltb i 4)) → r ≡ wrong_name fs i
  unfolding wrong_name
  name_wrong c e r g =
      g ∙ ap (λ (d : Columns). not (is_place d i) || not (ltb i 4)) e ∙ ap (λ (t : Bool). not t || not (ltb i 4)) place_column
      ∙ dual (is_column here) before (not (ltb i 4))

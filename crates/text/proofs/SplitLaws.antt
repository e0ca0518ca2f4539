-- What splitting at a separator gives: parts which joined give the list back; and the first part, as a loop finds it.
-- Assumes nothing.
use mathlib.Core.Path.{◌≡◌, refl, sym, ap, ap₂, ◌∙◌}
use mathlib.Core.Bool.{Bool, true, false}
use mathlib.Core.List.{List, [], ◌∷◌}
use Prim.Native.Nat.{ℕ, suc, ◌+◌, ◌≤◌, ◌<◌}
use native.Mathlib.Omega.{arith}
use native.Mathlib.Numerals.{add-one}
use borrow.Author.Tests.{eq-eqb, ne_eqb, eqb-true, eqb-false}
use lib.Dec.{eqb}
use lib.ListN.{length, get_or, take, drop}
use lib.Seq.{length-take-le, take-length}
use Rattle.text.specs.Split.{prepend, split, joined, first_part}

-- ---- one byte more in front

pub split_at : (b x : ℕ) (xs : List ℕ) → x ≡ b → split b (x ∷ xs) ≡ [] ∷ split b xs
unfolding split
split_at b x xs e = simp (eq-eqb x b e)

pub split_on : (b x : ℕ) (xs : List ℕ) → (x ≡ b → ⊥) → split b (x ∷ xs) ≡ prepend x (split b xs)
unfolding split
split_on b x xs n = simp (ne_eqb x b n)

pub split_empty : (b : ℕ) → split b [] ≡ [] ∷ []
unfolding split
split_empty b = refl

-- There is always a first part.
pub split_some : (b : ℕ) (l : List ℕ) → (p : List ℕ) × (ps : List (List ℕ)) × (split b l ≡ p ∷ ps)
split_some b [] = ([], [], split_empty b)
split_some b (x ∷ xs) = go (eqb x b) refl (split_some b xs)
  where
    go : (t : Bool) → eqb x b ≡ t → (p : List ℕ) × (ps : List (List ℕ)) × (split b xs ≡ p ∷ ps) → (p : List ℕ) × (ps : List (List ℕ)) × (split b (x ∷ xs) ≡ p ∷ ps)
    go true e r = ([], split b xs, split_at b x xs (eqb-true x b e))
    go false e r = (x ∷ r.0, r.1, split_on b x xs (eqb-false x b e) ∙ ap (prepend x) r.2)

-- ---- the first part: all of the list, or what stands before a separator

pub data Cut (b : ℕ) (l : List ℕ) : Type 0 where
  uncut : first_part b l ≡ l → split b l ≡ l ∷ [] → Cut b l
  cut : (n : ℕ) → n < length l → first_part b l ≡ take n l → split b l ≡ take n l ∷ split b (drop (suc n) l) → Cut b l

abbrev head : List (List ℕ) → List ℕ
head ps = get_or ps 0 []

pub cut_of : (b : ℕ) (l : List ℕ) → Cut b l
cut_of b [] = uncut (ap head (split_empty b)) (split_empty b)
cut_of b (x ∷ xs) = go (eqb x b) refl (cut_of b xs)
  where
    go : (t : Bool) → eqb x b ≡ t → Cut b xs → Cut b (x ∷ xs)
    go true e c = let s = split_at b x xs (eqb-true x b e) in cut 0 (omega arith) (ap head s) s
    go false e (uncut f s) = let q = split_on b x xs (eqb-false x b e) ∙ ap (prepend x) s in uncut (ap head q) q
    go false e (cut n h f s) = let q = split_on b x xs (eqb-false x b e) ∙ ap (prepend x) s in cut (suc n) (omega arith) (ap head q) q

-- How long the first part is tells which it was.
pub split_last : (b : ℕ) (l : List ℕ) → length (first_part b l) ≡ length l → split b l ≡ l ∷ []
split_last b l e = go (cut_of b l)
  where
    go : Cut b l → split b l ≡ l ∷ []
    go (uncut f s) = s
    go (cut n h f s) = let z = ap length f ∙ length-take-le n l (omega arith) in absurd (omega arith)

pub split_next : (b : ℕ) (l : List ℕ) → (length (first_part b l) ≡ length l → ⊥)
    → split b l ≡ take (length (first_part b l)) l ∷ split b (drop (length (first_part b l) + 1) l)
split_next b l n = go (cut_of b l)
  where
    go : Cut b l → split b l ≡ take (length (first_part b l)) l ∷ split b (drop (length (first_part b l) + 1) l)
    go (uncut f s) = absurd (n (ap length f))
    go (cut m h f s) =
        let z : length (first_part b l) ≡ m = ap length f ∙ length-take-le m l (omega arith) in
        rw (z, add-one m) s

pub first_is : (b : ℕ) (l : List ℕ) → first_part b l ≡ take (length (first_part b l)) l
first_is b l = go (cut_of b l)
  where
    go : Cut b l → first_part b l ≡ take (length (first_part b l)) l
    go (uncut f s) = f ∙ sym (ap (λ (n : ℕ). take n l) (ap length f) ∙ take-length l)
    go (cut m h f s) = f ∙ sym (ap (λ (n : ℕ). take n l) (ap length f ∙ length-take-le m l (omega arith)))

pub first_short : (b : ℕ) (l : List ℕ) → length (first_part b l) ≤ length l
first_short b l = go (cut_of b l)
  where
    go : Cut b l → length (first_part b l) ≤ length l
    go (uncut f s) = let z = ap length f in omega arith
    go (cut m h f s) = let z = ap length f ∙ length-take-le m l (omega arith) in omega arith

-- ---- the parts joined are the list

pub joined_prepend : (b x : ℕ) (p : List ℕ) (ps : List (List ℕ)) → joined b (prepend x (p ∷ ps)) ≡ x ∷ joined b (p ∷ ps)
unfolding joined
joined_prepend b x p [] = refl
joined_prepend b x p (q ∷ ps) = refl

pub joined_split : (b : ℕ) (l : List ℕ) → joined b (split b l) ≡ l
unfolding joined
joined_split b [] = ap (joined b) (split_empty b)
joined_split b (x ∷ xs) = go (eqb x b) refl (split_some b xs) (joined_split b xs)
  where
    go : (t : Bool) → eqb x b ≡ t → (p : List ℕ) × (ps : List (List ℕ)) × (split b xs ≡ p ∷ ps) → joined b (split b xs) ≡ xs → joined b (split b (x ∷ xs)) ≡ x ∷ xs
    go true e r ih =
        let q = eqb-true x b e in
        ap (joined b) (split_at b x xs q ∙ ap (λ (k : List (List ℕ)). [] ∷ k) r.2) ∙ ap₂ (λ (y : ℕ) (k : List ℕ). y ∷ k) (sym q) (sym (ap (joined b) r.2) ∙ ih)
    go false e r ih =
        ap (joined b) (split_on b x xs (eqb-false x b e) ∙ ap (prepend x) r.2) ∙ joined_prepend b x r.0 r.1
        ∙ ap (λ (k : List ℕ). x ∷ k) (sym (ap (joined b) r.2) ∙ ih)

-- Tests over the members of a list: what they say.
use Prim.Native.Nat.{ℕ, ◌<◌}
use mathlib.Core.Path.{◌≡◌, refl, ap₂, subst}
use mathlib.Core.Logic.{◌⊎◌, inl, inr, ◌↔◌}
use mathlib.Core.Bool.{Bool, ◌||◌, ◌&&◌}
use mathlib.Core.List.{List, [], ◌∷◌}
use lib.Dec.{T, eqb, eqb→eq, eqb_refl}
use Rattle.sets.proofs.Laws.{some_below_out, some_below_in, members_out, members_in}
use Rattle.sets.specs.Sets.{◌∈◌, member, some_below, members}
use Rattle.sets.proofs.Truth.{or_l, or_r, or_cases, same, and_i, and_l, and_r}
use Rattle.necklace.specs.Compute.{some_of, elem}

pub some_of_out : (f : ℕ → Bool) (xs : List ℕ) → T (some_of f xs) → (x : ℕ) × (x ∈ xs) × T (f x)
some_of_out f [] t = absurd t
some_of_out f (x ∷ xs) t = go (λ s. some_of_out f xs s) (or_cases (f x) (some_of f xs) t)
  where
    go : (T (some_of f xs) → (y : ℕ) × (y ∈ xs) × T (f y)) → T (f x) ⊎ T (some_of f xs) → (y : ℕ) × (y ∈ (x ∷ xs)) × T (f y)
    go rest (inl s) = (x, inl refl, s)
    go rest (inr s) = let r = rest s in (r.0, inr r.1, r.2)

pub some_of_in : (f : ℕ → Bool) (xs : List ℕ) (x : ℕ) → x ∈ xs → T (f x) → T (some_of f xs)
some_of_in f [] x m t = absurd m
some_of_in f (y ∷ ys) x (inl e) t = or_l (f y) (some_of f ys) (subst (λ (z : ℕ). T (f z)) e t)
some_of_in f (y ∷ ys) x (inr m) t = or_r (f y) (some_of f ys) (some_of_in f ys x m t)

-- the test looks at the members alone
pub some_of_ext : (f g : ℕ → Bool) (xs : List ℕ) → ((x : ℕ) → x ∈ xs → f x ≡ g x) → some_of f xs ≡ some_of g xs
some_of_ext f g [] h = refl
some_of_ext f g (x ∷ xs) h = ap₂ ◌||◌ (h x (inl refl)) (some_of_ext f g xs (λ y m. h y (inr m)))

pub elem_out : (x : ℕ) (ys : List ℕ) → T (elem x ys) → x ∈ ys
elem_out x ys t = let r = some_of_out (eqb x) ys t in rw (eqb→eq x r.0 r.2) r.1

pub elem_in : (x : ℕ) (ys : List ℕ) → x ∈ ys → T (elem x ys)
elem_in x ys m = some_of_in (eqb x) ys x m (eqb_refl x)

pub elem_agrees : (x : ℕ) (ys : List ℕ) → T (elem x ys) ↔ (x ∈ ys)
elem_agrees x ys = (elem_out x ys, elem_in x ys)

-- the one member of a list of one
pub only : (r s : ℕ) (ls : List ℕ) → ls ≡ s ∷ [] → r ∈ ls → r ≡ s
only r s ls e m = go (rw e at m)
  where
    go : r ∈ (s ∷ []) → r ≡ s
    go (inl p) = p
    go (inr x') = elim x' [ ]

-- ---- over the members of a set

pub elem_members : (n s r : ℕ) → r < n → elem r (members n s) ≡ member r s
elem_members n s r h =
    same (elem r (members n s)) (member r s) (λ t. (members_out n s r (elem_out r (members n s) t)).1) (λ t. elem_in r (members n s) (members_in n s r h t))

pub some_of_members : (n s : ℕ) (f : ℕ → Bool) → some_of f (members n s) ≡ some_below n (λ i. member i s && f i)
some_of_members n s f = same (some_of f (members n s)) (some_below n (λ i. member i s && f i)) forth back
  where
    forth : T (some_of f (members n s)) → T (some_below n (λ i. member i s && f i))
    forth t =
        let r = some_of_out f (members n s) t in
        let m = members_out n s r.0 r.1 in
        some_below_in n (λ i. member i s && f i) r.0 m.0 (and_i (member r.0 s) (f r.0) m.1 r.2)

    back : T (some_below n (λ i. member i s && f i)) → T (some_of f (members n s))
    back t =
        let r = some_below_out n (λ i. member i s && f i) t in
        some_of_in f (members n s) r.0 (members_in n s r.0 r.1 (and_l (member r.0 s) (f r.0) r.2))
        (and_r (member r.0 s) (f r.0) r.2)

-- Pasts, dags alike in the past of a vertex and dags that only add, computed: where the tests say yes and where they say no.
-- `CasesOfPastsMeaning` turns each into a fact about the definitions, which stand only as hypotheses in `equal_pasts` and `only_adds`.
-- Assumes nothing.
use Prim.Native.Nat.{ℕ}
use mathlib.Core.Path.{◌≡◌, refl}
use mathlib.Core.Bool.{Bool, true, false}
use mathlib.Core.List.{List, [], ◌∷◌, ◌++◌, map}
use lib.ListN.{length, take, set}
use Rattle.sets.specs.Sets.{all_below}
use Rattle.necklace.specs.Compute.{some?, backward, pass}
use Rattle.necklace.specs.Listed.{listed_dag}
use Rattle.necklace.specs.Tests.{route?, past?, alike?, only_adds?}
use Rattle.necklace.proofs.Cases.{listing}

-- The listing with other labels and predecessors at a vertex.
abbrev changed : ℕ → List ℕ → List ℕ → List (List ℕ × List ℕ)
changed v ls ps = set listing v (ls, ps)

-- ---- the past of a vertex

-- Is x in the past of v?
pub record PastCase : Type 0 where
  pub dag : List (List ℕ × List ℕ)
  pub v : ℕ
  pub x : ℕ
  pub is : Bool

abbrev pub in_past : PastCase → Bool
in_past c = past? (listed_dag c.dag) c.v c.x

abbrev listed : ℕ → ℕ → Bool → PastCase
listed v x is = record { dag = listing; v = v; x = x; is = is }

unfoldable pub past_cases : List PastCase
past_cases =
    -- v itself
    listed 4 4 true
    ∷ listed 0 0 true
    -- a route of one edge, of two, of three
    ∷ listed 4 2 true
    ∷ listed 4 1 true
    ∷ listed 5 0 true
    -- a smaller number without a route
    ∷ listed 5 2 false
    ∷ listed 6 3 false
    -- a route, but away from v
    ∷ listed 3 5 false
    ∷ []

pub past_cases_count : length past_cases ≡ 8
unfolding past_cases
past_cases_count = refl

pub pasts_computed : map in_past past_cases ≡ map (λ c. c.is) past_cases
unfolding past_cases past? route? some? backward pass
pasts_computed = refl

-- ---- alike in the past of a vertex

-- Are two dags alike in the past of v?
pub record AlikeCase : Type 0 where
  pub first : List (List ℕ × List ℕ)
  pub second : List (List ℕ × List ℕ)
  pub v : ℕ
  pub is : Bool

abbrev pub are_alike : AlikeCase → Bool
are_alike c = alike? (listed_dag c.first) (listed_dag c.second) c.v

abbrev against : List (List ℕ × List ℕ) → ℕ → Bool → AlikeCase
against second v is = record { first = listing; second = second; v = v; is = is }

-- The past of 5 is 0, 1, 3, 5; that of 4 is 0, 1, 2, 3, 4.
unfoldable pub alike_cases : List AlikeCase
alike_cases =
    against listing 4 true
    -- fewer vertices, one, more
    ∷ against (take 6 listing) 5 true
    ∷ against (take 1 listing) 0 true
    ∷ against (listing ++ ((0 ∷ [], 5 ∷ 6 ∷ []) ∷ [])) 5 true
    -- v is a vertex of one only
    ∷ against (take 6 listing) 6 false
    -- other labels of vertex 2: outside the past of 5, inside that of 4
    ∷ against (changed 2 (0 ∷ []) (0 ∷ 1 ∷ [])) 5 true
    ∷ against (changed 2 (0 ∷ []) (0 ∷ 1 ∷ [])) 4 false
    -- an edge into vertex 4: outside the past of 5, inside that of 4
    ∷ against (changed 4 (1 ∷ []) (1 ∷ 2 ∷ 3 ∷ [])) 5 true
    ∷ against (changed 4 (1 ∷ []) (1 ∷ 2 ∷ 3 ∷ [])) 4 false
    -- a label of v: added, changed, removed
    ∷ against (changed 5 (0 ∷ []) (3 ∷ [])) 5 false
    ∷ against (changed 4 (0 ∷ []) (2 ∷ 3 ∷ [])) 4 false
    ∷ against (changed 4 [] (2 ∷ 3 ∷ [])) 4 false
    -- an edge into the past, from outside it and from within
    ∷ against (changed 3 (1 ∷ []) (1 ∷ 2 ∷ [])) 5 false
    ∷ against (changed 3 (1 ∷ []) (0 ∷ 1 ∷ [])) 5 false
    -- the same members in another order, one of them twice
    ∷ against (changed 2 (2 ∷ 2 ∷ []) (1 ∷ 0 ∷ 1 ∷ [])) 4 true
    ∷ []

pub alike_cases_count : length alike_cases ≡ 15
unfolding alike_cases
alike_cases_count = refl

pub alikes_computed : map are_alike alike_cases ≡ map (λ c. c.is) alike_cases
unfolding alike_cases alike? past? route? some? backward pass all_below
alikes_computed = refl

-- ---- only adds

-- Does the second dag only add to the first?
pub record AddsCase : Type 0 where
  pub first : List (List ℕ × List ℕ)
  pub second : List (List ℕ × List ℕ)
  pub is : Bool

abbrev pub adds_only : AddsCase → Bool
adds_only c = only_adds? (listed_dag c.first) (listed_dag c.second)

abbrev adding : List (List ℕ × List ℕ) → Bool → AddsCase
adding second is = record { first = listing; second = second; is = is }

unfoldable pub adds_cases : List AddsCase
adds_cases =
    adding listing true
    -- an edge, a label on a labelled vertex, both
    ∷ adding (changed 5 [] (2 ∷ 3 ∷ [])) true
    ∷ adding (changed 3 (0 ∷ 1 ∷ []) (1 ∷ [])) true
    ∷ adding (changed 3 (1 ∷ 2 ∷ []) (0 ∷ 1 ∷ 2 ∷ [])) true
    -- a first label on a bare vertex
    ∷ adding (changed 5 (0 ∷ []) (3 ∷ [])) false
    -- a label less, another label, an edge less
    ∷ adding (changed 3 [] (1 ∷ [])) false
    ∷ adding (changed 3 (0 ∷ []) (1 ∷ [])) false
    ∷ adding (changed 2 (2 ∷ []) (1 ∷ [])) false
    -- a vertex more, a vertex less
    ∷ adding (listing ++ ((0 ∷ [], 5 ∷ 6 ∷ []) ∷ [])) false
    ∷ adding (take 6 listing) false
    ∷ []

pub adds_cases_count : length adds_cases ≡ 10
unfolding adds_cases
adds_cases_count = refl

pub adds_computed : map adds_only adds_cases ≡ map (λ c. c.is) adds_cases
unfolding adds_cases only_adds? all_below
adds_computed = refl

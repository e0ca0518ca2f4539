-- Forward sets, computed: those of two starting vertices, on the dag of the listing.
use Prim.Native.Nat.{ℕ}
use mathlib.Core.Path.{◌≡◌, refl}
use mathlib.Core.Bool.{Bool, true, false}
use mathlib.Core.List.{List, [], ◌∷◌, map}
use Rattle.sets.specs.Sets.{set_of, some_below}
use Rattle.necklace.specs.Dag.{Dag}
use Rattle.necklace.specs.Necklace.{SOME, ALL}
use Rattle.necklace.specs.Compute.{elem}
use Rattle.necklace.specs.Listed.{listed_dag}
use Rattle.necklace.proofs.Cases.{listing, second_automaton, vented}
use Rattle.necklace.specs.inner.Forward.{ahead, forward, reaches?}

-- Edges 0-1, 0-2, 1-2, 1-3, 2-4, 3-4, 3-5, 1-6; the label vent on vertex 2 moves the automaton from state 0 to state 1.
abbrev pub dag : Dag
dag = listed_dag listing

abbrev pub starting : ℕ → Bool
starting u = elem u (1 ∷ 2 ∷ [])

abbrev pub vertices : List ℕ
vertices = 0 ∷ 1 ∷ 2 ∷ 3 ∷ 4 ∷ 5 ∷ 6 ∷ []

-- none below the starting vertices; {0, 1} at vertices 2 and 4, as numbers
pub sets_computed : map (λ x. set_of 16 (forward dag vented starting x)) vertices ≡ 0 ∷ 1 ∷ 3 ∷ 1 ∷ 3 ∷ 1 ∷ 1 ∷ []
unfolding set_of some_below ahead forward
sets_computed = refl

pub some_computed : map (reaches? SOME dag vented starting) vertices ≡ false ∷ false ∷ true ∷ false ∷ true ∷ false ∷ false ∷ []
unfolding some_below ahead forward
some_computed = refl

pub all_computed : map (reaches? ALL dag second_automaton starting) vertices ≡ false ∷ true ∷ false ∷ true ∷ false ∷ true ∷ true ∷ []
unfolding some_below ahead forward
all_computed = refl

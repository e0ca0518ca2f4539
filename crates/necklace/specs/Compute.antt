-- The same notions as tests and functions that can be computed, and that contracts equate with. Each is proved to say what the
-- declarative definition of its name says.
use Rattle.std.specs.Prelude.{ℕ, zero, suc, Bool, true, false, not, cond, ◌&&◌, ◌||◌, List, [], ◌∷◌, ◌++◌, eqb, take, replicate}
use Rattle.sets.specs.Sets.{set_of, some_below}
use Rattle.necklace.specs.Dag.{Dag}
use Rattle.necklace.specs.Automaton.{Automaton, exchange}
use Rattle.necklace.specs.Necklace.{Modality, SOME, ALL, Primitive, Pattern}

-- Some member of a list passes.
abbrev pub some_of : (ℕ → Bool) → List ℕ → Bool
some_of f [] = false
some_of f (x ∷ xs) = f x || some_of f xs

abbrev pub elem : ℕ → List ℕ → Bool
elem x ys = some_of (eqb x) ys

-- The states from which entering a vertex with these labels can lead into S.
abbrev pub enters : Automaton → List ℕ → (ℕ → Bool) → ℕ → Bool
enters A [] S q = S q
enters A (a ∷ ls) S q = some_of (λ b. some_of S (A.next q b)) (a ∷ ls)

-- One turn of the backward pass: the vertex x adds, to each of its predecessors, the states from which entering x leads into
-- the set of x. `sets w q`: the state q is in the set of the vertex w.
abbrev pub add_back : Dag → Automaton → ℕ → (ℕ → ℕ → Bool) → ℕ → ℕ → Bool
add_back G A x sets w q = sets w q || (elem w (G.preds x) && enters A (G.labels x) (sets x) q)

-- The vertices x, x - 1, .., 1 in turn.
unfoldable pub pass : Dag → Automaton → ℕ → (ℕ → ℕ → Bool) → ℕ → ℕ → Bool
pass G A zero sets = sets
pass G A (suc x) sets = pass G A x (add_back G A (suc x) sets)

-- For a target v and a set F of states: the state q at w, from which some reading of some path to v ends in F.
unfoldable pub backward : Dag → Automaton → (ℕ → Bool) → ℕ → ℕ → ℕ → Bool
unfolding pass
backward G A F v w q = pass G A v (λ x r. eqb x v && F r) w q

-- SOME: from state 0 at u.
unfoldable pub some? : Dag → Automaton → ℕ → ℕ → Bool
some? G A u v = backward G A A.accepting v u 0

-- ALL, for a complete and deterministic automaton: SOME for its accepting states, and not SOME for its others.
unfoldable pub all? : Dag → Automaton → ℕ → ℕ → Bool
all? G A u v = some? G A u v && not (some? G (exchange A) u v)

abbrev pub satisfies_by? : Modality → Dag → Automaton → ℕ → ℕ → Bool
satisfies_by? SOME G A u v = some? G A u v
satisfies_by? ALL G A u v = all? G A u v

abbrev pub satisfies? : Dag → Primitive → ℕ → ℕ → Bool
satisfies? G b u v = satisfies_by? b.modality G b.automaton u v

-- The first k beads hold at v.
unfoldable pub holds? : Dag → Pattern → ℕ → ℕ → Bool
holds? G P zero v = eqb v 0
holds? G P (suc k) v = some_below (suc v) (λ u. holds? G P k u && satisfies? G (P.bead k) u v)

abbrev pub serves? : Dag → Pattern → ℕ → ℕ → ℕ → Bool
serves? G P k v u = holds? G P k u && satisfies? G (P.bead k) u v

-- The smallest of i, i + 1, .., i + d - 1 that passes, or else i + d.
unfoldable pub seek : (ℕ → Bool) → ℕ → ℕ → ℕ
seek f zero i = i
seek f (suc d) i = elim (f i) [ true ↦ i | false ↦ seek f d (suc i) ]

-- The smallest vertex that serves as the pivot before v.
unfoldable pub before : Dag → Pattern → ℕ → ℕ → ℕ
before G P k v = seek (serves? G P k v) (suc v) 0

-- The pivots p 0, .., p k = v that are picked backwards from v.
unfoldable pub pivots : Dag → Pattern → ℕ → ℕ → List ℕ
pivots G P zero v = v ∷ []
pivots G P (suc k) v = pivots G P k (before G P k v) ++ (v ∷ [])

-- The set of the prefixes that hold at v: bit k for the first k + 1 beads.
unfoldable pub prefixes : Dag → Pattern → ℕ → ℕ
prefixes G P v = set_of P.count (λ k. holds? G P (suc k) v)

unfoldable pub row : Dag → Pattern → ℕ → List ℕ
row G P v = prefixes G P v ∷ take 9 (cond (holds? G P P.count v) (pivots G P P.count v) [] ++ replicate 9 0)

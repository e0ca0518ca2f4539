-- The forward pass from a set of starting vertices, as functions that can be computed.
use Rattle.std.specs.Prelude.{ℕ, zero, suc, ◌<◌, Bool, false, not, ◌&&◌, ◌||◌, List, [], ◌∷◌, T, eqb, ltb}
use Rattle.sets.specs.Sets.{◌∈◌, some_below}
use Rattle.necklace.specs.Dag.{Dag, Route, entered, Reading}
use Rattle.necklace.specs.Automaton.{Automaton, Run}
use Rattle.necklace.specs.Necklace.{Modality, SOME, ALL}
use Rattle.necklace.specs.Compute.{some_of, elem}

-- The states to which entering a vertex with these labels leads from q: q itself where there are none.
abbrev pub reached : Automaton → List ℕ → ℕ → ℕ → Bool
reached A [] q r = eqb r q
reached A (a ∷ ls) q r = some_of (λ b. elem r (A.next q b)) (a ∷ ls)

-- Entering x reaches the state r from a state, below 16, in the set of one of its predecessors. `sets w q`: the state q is in the set
-- of the vertex w.
abbrev pub arrives : Dag → Automaton → (ℕ → ℕ → Bool) → ℕ → ℕ → Bool
arrives G A sets x r = some_below 16 (λ q. some_of (λ w. sets w q) (G.preds x) && reached A (G.labels x) q r)

-- The sets after the turns of the vertices below d. In its turn a vertex gets {0} if it is a starting vertex, and what arrives from its
-- predecessors.
unfoldable pub ahead : Dag → Automaton → (ℕ → Bool) → ℕ → ℕ → ℕ → Bool
ahead G A starts zero x r = false
ahead G A starts (suc d) x r = ahead G A starts d x r || (eqb x d && ((starts x && eqb r 0) || arrives G A (ahead G A starts d) x r))

-- For a set of starting vertices: the state r at x, which some reading of some path from one of them to x reaches from state 0.
unfoldable pub forward : Dag → Automaton → (ℕ → Bool) → ℕ → ℕ → Bool
forward G A starts x r = ahead G A starts (suc x) x r

-- Some reading of some route from a starting vertex to v runs from state 0 to r. That the forward set says this is a theorem
-- (`forward_means`).
pub record EndsIn (G : Dag) (A : Automaton) (starts : ℕ → Bool) (v r : ℕ) : Type 0 where
  pub from : ℕ
  pub starting : T (starts from)
  pub route : Route G from v
  pub word : List ℕ
  pub reading : Reading G (entered route) word
  pub run : Run A.next 0 word r

-- The set of v has a state of H and, under ALL, no state of the automaton outside H.
abbrev pub among? : Modality → Dag → Automaton → (ℕ → Bool) → (ℕ → Bool) → ℕ → Bool
among? SOME G A H starts v = some_below 16 (λ r. H r && forward G A starts v r)
among? ALL G A H starts v =
    some_below 16 (λ r. H r && forward G A starts v r) && not (some_below 16 (λ r. (ltb r A.states && not (H r)) && forward G A starts v r))

-- A primitive pattern reaches v from the starting vertices, by the set of v: SOME by an accepting state; ALL by one, and by no other
-- state of the automaton.
abbrev pub reaches? : Modality → Dag → Automaton → (ℕ → Bool) → ℕ → Bool
reaches? m G A starts v = among? m G A A.accepting starts v

-- States H among which are all from which an accepting state can be reached: the accepting ones, and each with a next state among them,
-- at some label.
pub record Hopeful (A : Automaton) (H : ℕ → Bool) : Type 0 where
  pub accepting : (q : ℕ) → q < 16 → T (A.accepting q) → T (H q)
  pub before : (q a r : ℕ) → q < 16 → r ∈ A.next q a → T (H r) → T (H q)

-- Dags, automata and patterns given by lists.
use Rattle.std.specs.Prelude.{ℕ, List, [], length, get_or}
use Rattle.necklace.specs.Dag.{Dag}
use Rattle.necklace.specs.Automaton.{Automaton}
use Rattle.necklace.specs.Necklace.{Modality, SOME, Primitive, Pattern}
use Rattle.necklace.specs.Compute.{elem}

-- The labels and the predecessors of the vertices 0, 1, ..
abbrev pub listed_dag : List (List ℕ × List ℕ) → Dag
listed_dag vs = record { size = length vs; labels = λ v. (get_or vs v ([], [])).0; preds = λ v. (get_or vs v ([], [])).1 }

-- For the states 0, 1, .. the next states at the labels 0, 1, ..; and the accepting states.
abbrev pub listed_automaton : List (List (List ℕ)) → List ℕ → Automaton
listed_automaton δ F = record { states = length δ; next = λ q a. get_or (get_or δ q []) a []; accepting = λ q. elem q F }

abbrev pub bead : Modality → Automaton → Primitive
bead m A = record { modality = m; automaton = A }

abbrev pub listed_pattern : List Primitive → Pattern
listed_pattern bs = record { count = length bs; bead = λ j. get_or bs j (bead SOME (listed_automaton [] [])) }

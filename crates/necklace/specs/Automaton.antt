-- Finite automata and the words they accept (RR-2838, section 3.1).
use Rattle.std.specs.Prelude.{ℕ, ◌<◌, ◌≡◌, Bool, not, ◌&&◌, List, [], ◌∷◌, T, ltb}
use Rattle.sets.specs.Sets.{◌∈◌}

-- An automaton (document 01: a state table). States are 0 to states - 1, and state 0 is the initial one; the next states of
-- a state at a label (the next set), and which states accept (the final set).
pub record Automaton : Type 0 where
  pub states : ℕ
  pub next : ℕ → ℕ → List ℕ
  pub accepting : ℕ → Bool

-- A run over a word, by the next states δ, from the state q to the state r.
pub data Run (δ : ℕ → ℕ → List ℕ) : ℕ → List ℕ → ℕ → Type 0 where
  stay : {q : ℕ} → Run δ q [] q
  move : {q r s a : ℕ} {w : List ℕ} → r ∈ δ q a → Run δ r w s → Run δ q (a ∷ w) s

-- A word of the automaton (document 01: a word that belongs to the bead): some run from state 0 ends in an accepting state.
pub record Accepts (A : Automaton) (w : List ℕ) : Type 0 where
  pub last : ℕ
  pub run : Run A.next 0 w last
  pub accepted : T (A.accepting last)

-- Complete and deterministic over c labels: exactly one next state for each state and label.
pub record OneNext (c : ℕ) (A : Automaton) : Type 0 where
  pub initial : 0 < A.states
  pub one : (q a : ℕ) → q < A.states → a < c → (r : ℕ) × (r < A.states) × (A.next q a ≡ r ∷ [])

-- The same automaton with its accepting and its other states exchanged.
abbrev pub exchange : Automaton → Automaton
exchange A = record { states = A.states; next = A.next; accepting = λ q. ltb q A.states && not (A.accepting q) }

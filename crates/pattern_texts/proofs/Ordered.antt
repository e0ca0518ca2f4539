-- Rows in the order that a pattern's lines have: bead by bead, state by state, rules by turns.
use Prim.Native.Nat.{ℕ, ◌+◌, ◌≤◌, ◌<◌}
use mathlib.Core.Path.{◌≡◌}
use mathlib.Core.List.{List, [], ◌∷◌, ◌++◌}
use native.Mathlib.Omega.{arith}
use lib.Dec.{T}
use lib.ListN.{length}
use Rattle.layout.specs.Layout.{most_beads, most_states}
use Rattle.rules.specs.Rules.{is_rule}
use Rattle.pattern_order.specs.StateLine.{StateLine}

-- What stands before the first row.
abbrev pub origin : StateLine
origin = record { bead = 0; rule = 0; state = 0; accepting = 0; next = [] }

-- The row r comes right after p: the next state of the bead, by the same rule, or state 0 of the next bead, by another.
pub data Follows (p r : StateLine) : Type 0 where
  same_bead : 0 < p.bead → r.bead ≡ p.bead → r.state ≡ p.state + 1 → r.rule ≡ p.rule → Follows p r
  next_bead : r.bead ≡ p.bead + 1 → r.state ≡ 0 → (r.rule ≡ p.rule → ⊥) → Follows p r

-- The numbers of a row over c labels keep to their limits.
pub record Fits (c : ℕ) (r : StateLine) : Type 0 where
  pub bead_most : r.bead ≤ most_beads
  pub state_most : r.state < most_states
  pub accepting_most : r.accepting ≤ 1
  pub rule_known : T (is_rule r.rule)
  pub labelled : length r.next ≡ c

-- Rows in order, and the last of them.
pub data Ordered (c : ℕ) : List StateLine → StateLine → Type 0 where
  start : Ordered c [] origin
  more : {rs : List StateLine} {p : StateLine} (r : StateLine) → Ordered c rs p → Follows p r → Fits c r → Ordered c (rs ++ (r ∷ [])) r

-- Beads count from 1, and go up by one at most.
pub bead_positive : {p r : StateLine} → Follows p r → 0 < r.bead
bead_positive (same_bead h e q u) = omega arith
bead_positive (next_bead e q u) = omega arith

pub bead_steps : {p r : StateLine} → Follows p r → (p.bead ≤ r.bead) × (r.bead ≤ p.bead + 1)
bead_steps (same_bead h e q u) = (omega arith, omega arith)
bead_steps (next_bead e q u) = (omega arith, omega arith)

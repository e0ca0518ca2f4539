-- What demands 2 and 3 speak of, in terms of calls: when a rule holds at a step, the count of rows, and patterns with states exchanged.
use Rattle.std.specs.Prelude.{ℕ, zero, suc, ◌+◌, ◌-◌, ◌*◌, ◌≤◌, ◌≡◌, Bool, cond, List, get_or, set}
use Rattle.lists.specs.Places.{at}
use Rattle.sets.specs.Sets.{member, complement}
use Rattle.layout.specs.Layout.{rule_at, states_at, accepting_at, next_at}
use Rattle.pattern_buffer.specs.Meaning.{labels_in, beads_in}
use Rattle.results.specs.Result.{row_in}

-- Under a pattern of one bead the rule holds at a step if bit 0 is set in its row.
abbrev pub rule_holds : List ℕ → ℕ → Bool
rule_holds result v = member 0 (get_or (row_in result v) 0 0)

-- How many of the first n rows have the bit of the last of so many beads.
unfoldable pub rows_with_bit : List ℕ → ℕ → ℕ → ℕ
rows_with_bit result beads zero = 0
rows_with_bit result beads (suc v) = rows_with_bit result beads v + cond (member (beads - 1) (get_or (row_in result v) 0 0)) 1 0

-- Two patterns of one bead, SOME and ALL, over the same states and next sets, with final and other states exchanged.
pub record Exchanged (p q : List ℕ) : Type 0 where
  pub one : beads_in p ≡ 1
  pub other_one : beads_in q ≡ 1
  pub labels : labels_in q ≡ labels_in p
  pub some_rule : at p (rule_at 0) ≡ 1
  pub all_rule : at q (rule_at 0) ≡ 2
  pub states : at q (states_at 0) ≡ at p (states_at 0)
  pub next : (i : ℕ) → next_at 0 0 0 ≤ i → at q i ≡ at p i
  pub accepting : at q (accepting_at 0) ≡ complement (at p (states_at 0)) (at p (accepting_at 0))

-- Such a partner of a pattern buffer of one bead: the other rule (1 for 2, 2 for 1), final and other states exchanged, all else as it is.
unfoldable pub exchanged_buffer : List ℕ → List ℕ
exchanged_buffer p =
    set (set p (rule_at 0) (3 - at p (rule_at 0))) (accepting_at 0) (complement (at p (states_at 0)) (at p (accepting_at 0)))

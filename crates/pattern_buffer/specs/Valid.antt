-- The test of a pattern buffer, place by place. `GivenPattern` says what it means; the theorem `pattern_buffers` proves it.
use Rattle.std.specs.Prelude.{ℕ, ◌-◌, ◌/◌, ◌%◌, Bool, not, cond, ◌&&◌, ◌||◌, List, eqb, leb, ltb, length}
use Rattle.rules.specs.Rules.{is_rule, needs_one_next}
use Rattle.lists.specs.Places.{at}
use Rattle.sets.specs.Sets.{all_below, within, single}
use Rattle.layout.specs.Layout.{most_labels, most_beads, most_states, rule_at, states_at, accepting_at, next_at, pattern_length, all_sets, sets_a_state, sets_a_bead}
use Rattle.pattern_buffer.specs.Meaning.{labels_in, beads_in}

abbrev pub between : ℕ → ℕ → ℕ → Bool
between low high n = leb low n && leb n high

-- Rules by turns: the first bead may have any, and every other has another than the one before.
abbrev pub turn_ok : List ℕ → ℕ → Bool
turn_ok b j = eqb j 0 || not (eqb (at b (rule_at j)) (at b (rule_at (j - 1))))

-- A bead that is there: a rule, by turns, 1 to 16 states, its final set among them. One that is not: zeros.
abbrev pub bead_ok : List ℕ → ℕ → Bool
bead_ok b j =
    cond (ltb j (beads_in b))
    (is_rule (at b (rule_at j))
    && (turn_ok b j
    && (between 1 most_states (at b (states_at j)) && within (at b (states_at j)) (at b (accepting_at j)))))
    (eqb (at b (rule_at j)) 0 && (eqb (at b (states_at j)) 0 && eqb (at b (accepting_at j)) 0))

-- A next set of a state and a label that are there: among the bead's states, and exactly one where the rule needs that. Else 0.
abbrev pub next_ok : List ℕ → ℕ → ℕ → ℕ → Bool
next_ok b j q a =
    cond (ltb q (at b (states_at j)) && ltb a (labels_in b))
    (within (at b (states_at j)) (at b (next_at j q a)) && (not (needs_one_next (at b (rule_at j))) || single most_states (at b (next_at j q a))))
    (eqb (at b (next_at j q a)) 0)

-- All beads, all next sets, there or not.
unfoldable pub beads_ok : List ℕ → Bool
beads_ok b = all_below most_beads (bead_ok b)

unfoldable pub nexts_ok : List ℕ → Bool
nexts_ok b = all_below all_sets (λ i. next_ok b (i / sets_a_bead) (i / sets_a_state % most_states) (i % sets_a_state))

-- The whole buffer: its length, its two counts, its beads and their next sets.
unfoldable pub is_pattern : List ℕ → Bool
is_pattern b =
    leb pattern_length (length b)
    && (between 1 most_labels (labels_in b) && (between 1 most_beads (beads_in b) && (beads_ok b && nexts_ok b)))

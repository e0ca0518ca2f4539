-- The pattern buffer (document 01, "Lent rooms": the pattern room): the numbers of what a text says.
use Rattle.std.specs.Prelude.{ℕ, ◌+◌, ◌/◌, ◌%◌, max, Bool, false, cond, ◌&&◌, List, [], ◌∷◌, ◌++◌, eqb, get_or}
use Rattle.layout.specs.Layout.{most_beads, most_states, sets_a_state, sets_a_bead, all_sets}
use Rattle.sets.specs.Sets.{set_of}
use Rattle.lists.specs.Tables.{table}
use Rattle.pattern_order.specs.StateLine.{StateLine}
use Rattle.pattern_store.specs.Next.{states_of}
use Rattle.pattern_store.specs.Format.{Known}

-- How many beads the rows speak of: the largest bead.
unfoldable pub bead_count : List StateLine → ℕ
bead_count [] = 0
bead_count (r ∷ rs) = max r.bead (bead_count rs)

-- The rule of a bead; 0 where no row speaks of it.
unfoldable pub rule_of_bead : List StateLine → ℕ → ℕ
rule_of_bead [] b = 0
rule_of_bead (r ∷ rs) b = cond (eqb r.bead b) r.rule (rule_of_bead rs b)

abbrev pub is_at : StateLine → ℕ → ℕ → Bool
is_at r b q = eqb r.bead b && eqb r.state q

-- Is the state q of bead b final?
unfoldable pub accepting_of : List StateLine → ℕ → ℕ → Bool
accepting_of [] b q = false
accepting_of (r ∷ rs) b q = cond (is_at r b q) (eqb r.accepting 1) (accepting_of rs b q)

-- The next set of the state q of bead b at label a; 0 where no row has one.
unfoldable pub next_of : List StateLine → ℕ → ℕ → ℕ → ℕ
next_of [] b q a = 0
next_of (r ∷ rs) b q a = cond (is_at r b q) (get_or r.next a 0) (next_of rs b q a)

-- Its numbers: label count, bead count; the rules, the state counts, the final sets, a place a bead; the next sets, bead by bead, state by
-- state, label by label. Beads count from 1, their places from 0.
abbrev pub buffer_of : Known → List ℕ
buffer_of k =
    (k.labels ∷ (bead_count k.rows ∷ []))
    ++ (table (λ j. rule_of_bead k.rows (j + 1)) most_beads
    ++ (table (λ j. states_of k.rows (j + 1)) most_beads
    ++ (table (λ j. set_of most_states (accepting_of k.rows (j + 1))) most_beads
    ++ table (λ i. next_of k.rows (i / sets_a_bead + 1) (i / sets_a_state % most_states) (i % sets_a_state)) all_sets)))

-- 15 and 16 over the numbers of a pattern buffer: slot by slot, the slots in the order of the rows that they come from.
-- The slot most_states * j + q belongs to the state q of the bead with place j.
use Rattle.std.specs.Prelude.{ℕ, zero, suc, ◌+◌, ◌*◌, ◌/◌, ◌%◌, ◌≤◌, ◌<◌, Bool, not, cond, ◌&&◌, List, [], ltb, length, get_or, take, drop, Result, Ok, Err}
use Rattle.rules.specs.Rules.{needs_one_next}
use Rattle.sets.specs.Sets.{cons_if}
use Rattle.text.specs.Walk.{Judged, refused, passed, Outcome, accepted, faulty, walk}
use Rattle.layout.specs.Layout.{rule_at, states_at, pattern_length, most_labels, most_beads, most_states, all_states, sets_a_state, sets_begin}
use Rattle.pattern_store.specs.Next.{all_within, all_single}
use Rattle.pattern_line.specs.Answers.{refusal_number}
use Rattle.pattern_line.specs.declared.refusals.Refusal.{Refusal}
use Rattle.text.specs.declared.faults.Fault.{Fault}

-- A buffer of the right length with no more labels, and no more states a bead, than may be.
pub record Bounded (b : List ℕ) : Type 0 where
  pub size : pattern_length ≤ length b
  pub labels : get_or b 0 0 ≤ most_labels
  pub states : (j : ℕ) → j < most_beads → get_or b (states_at j) 0 ≤ most_states

-- Where the next sets of a slot begin.
abbrev pub slot_at : ℕ → ℕ
slot_at i = sets_begin + sets_a_state * i

-- The next sets of a slot, one for each label.
abbrev pub sets_at : List ℕ → ℕ → List ℕ
sets_at b i = take (get_or b 0 0) (drop (slot_at i) b)

unfoldable pub judge_slot : List ℕ → Unit {0} → ℕ → ℕ → Judged (Unit {0})
judge_slot b u n i =
    cond (not (all_within (get_or b (states_at (i / most_states)) 0) (sets_at b i))) (refused 15)
    (cond (needs_one_next (get_or b (rule_at (i / most_states)) 0) && not (all_single (sets_at b i))) (refused 16) (passed u))

-- The slots of states that their bead has, among i, i + 1, .., i + d - 1.
abbrev pub has_state : List ℕ → ℕ → Bool
has_state b i = ltb (i % most_states) (get_or b (states_at (i / most_states)) 0)

unfoldable pub slots_from : List ℕ → ℕ → ℕ → List ℕ
slots_from b zero i = []
slots_from b (suc d) i = cons_if (has_state b i) i (slots_from b d (i + 1))

-- The first fault, with its line: the rows stand from line 2 on.
abbrev pub late_faults : List ℕ → Outcome (Unit {0})
late_faults b = walk (judge_slot b) tt 2 (slots_from b all_states 0)

-- The same from what the code answers.
abbrev pub slot_said : Result (Unit {0}) Refusal → Judged (Unit {0})
slot_said (Ok u) = passed tt
slot_said (Err r) = refused (refusal_number r)

abbrev pub late_said : Result (Unit {0}) (Fault Refusal) → Outcome (Unit {0})
late_said (Ok u) = accepted tt
late_said (Err f) = faulty (refusal_number f.refusal) f.line

-- What the answer for a line's values says, and what it has to say.
use Rattle.std.specs.Prelude.{cond, List, [], ◌∷◌, Option, None, Some, Result, Ok, Err}
use Rattle.pattern_line.specs.Answers.{refusal_number, Said, refusal}
use Rattle.pattern_line.specs.declared.refusals.Refusal.{Refusal}
use Rattle.pattern_line.specs.declared.refusals.Refusal.TheVariants.{Order, Rule as Misruled}
use Rattle.pattern_order.specs.StateLine.{StateLine, disordered, misruled}
use Rattle.pattern_order.specs.declared.LineValues.{LineValues}

-- The values as a row, its next sets left out: 13 and 14 do not look at them.
abbrev pub row_for : LineValues → StateLine
row_for v = record { bead = v.bead; rule = v.rule; state = v.state; accepting = v.accepting; next = [] }

-- 13, then 14, or the values. The next sets stand beside them.
unfoldable pub order_judged : List StateLine → LineValues → Result LineValues Refusal
order_judged before v = cond (disordered before (row_for v)) (Err Order) (cond (misruled before (row_for v)) (Err Misruled) (Ok v))

-- The number of a line's answer, 0 where it is accepted, and its values: bead, rule, state, final. The next sets stand beside it.
abbrev pub line_said : Result LineValues Refusal → Said
line_said (Ok v) = record { number = 0; values = v.bead ∷ (v.rule ∷ (v.state ∷ (v.accepting ∷ []))) }
line_said (Err r) = refusal (refusal_number r)

-- The same in numbers: 13, then 14, or 0 with the values.
unfoldable pub order_said : List StateLine → StateLine → Said
order_said before r =
    cond (disordered before r) (refusal 13)
    (cond (misruled before r) (refusal 14) (record { number = 0; values = r.bead ∷ (r.rule ∷ (r.state ∷ (r.accepting ∷ []))) }))

-- The rows before, as far as 13 and 14 look at them: the last one, or none.
abbrev pub rows_at : Option LineValues → List StateLine
rows_at None = []
rows_at (Some l) = record { bead = l.bead; rule = l.rule; state = l.state; accepting = 0; next = [] } ∷ []

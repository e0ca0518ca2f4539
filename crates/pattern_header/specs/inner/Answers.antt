-- What the header's answer says, and what it has to say.
use Rattle.std.specs.Prelude.{ℕ, cond, List, [], ◌∷◌, Result, Ok, Err}
use Rattle.pattern_line.specs.Answers.{refusal_number, Said, refusal}
use Rattle.pattern_line.specs.declared.refusals.Refusal.{Refusal}
use Rattle.pattern_line.specs.declared.refusals.Refusal.TheVariants.{Header}
use Rattle.pattern_header.specs.Header.{is_header, label_count}

-- The label count, or the refusal.
unfoldable pub header_judged : List (List ℕ) → Result ℕ Refusal
header_judged fs = cond (is_header fs) (Ok (label_count fs)) (Err Header)

-- The number of the header's answer, 0 where it is accepted, and its value: the label count.
abbrev pub header_said : Result ℕ Refusal → Said
header_said (Ok count) = record { number = 0; values = count ∷ [] }
header_said (Err r) = refusal (refusal_number r)

-- The same in numbers: 12, or 0 with the label count.
unfoldable pub header_numbers : List (List ℕ) → Said
header_numbers fs = cond (is_header fs) (record { number = 0; values = label_count fs ∷ [] }) (refusal 12)

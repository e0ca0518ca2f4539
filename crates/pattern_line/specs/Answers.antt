-- A line's answer in numbers, and document 01's number of each refusal.
use Rattle.std.specs.Prelude.{ℕ, List, []}
use Rattle.pattern_line.specs.declared.refusals.Refusal.{Refusal}
use Rattle.pattern_line.specs.declared.refusals.Refusal.TheVariants.{Size, Malformed, Header, Order, Rule, NextState, NextCount}

abbrev pub refusal_number : Refusal → ℕ
refusal_number Size = 10
refusal_number Malformed = 11
refusal_number Header = 12
refusal_number Order = 13
refusal_number Rule = 14
refusal_number NextState = 15
refusal_number NextCount = 16

-- A line's answer in numbers: 0 and its values, or the refusal's number and no values.
pub record Said : Type 0 where
  pub number : ℕ
  pub values : List ℕ

abbrev pub refusal : ℕ → Said
refusal n = record { number = n; values = [] }

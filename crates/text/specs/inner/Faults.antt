-- An answer about a line, as one about the text that has it.
use Rattle.std.specs.Prelude.{ℕ, Result, Ok, Err}
use Rattle.text.specs.declared.faults.Fault.{Fault}

abbrev pub in_line : {T R : Type 0} → ℕ → Result T R → Result T (Fault R)
in_line line (Ok said) = Ok said
in_line line (Err refusal) = Err (record { refusal = refusal; line = line })

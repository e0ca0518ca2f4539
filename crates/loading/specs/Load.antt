-- What a read means for the text of a file (document 01: a file that can't be opened counts as empty; so does one whose reading fails).
use Rattle.std.specs.Prelude.{ℕ, zero, suc, ◌+◌, Result, Ok, Err}
use Rattle.std.specs.declared.ops.ControlFlow.{ControlFlow}
use Rattle.std.specs.declared.ops.ControlFlow.TheVariants.{Continue, Break}

-- After a read, when `done` bytes were there before it. It failed: the text is empty, and that is all. It gave none, at the file's end or
-- in no room: that is all. It gave bytes: they stand behind the others, and there may be more.
abbrev pub after_read : {E : Type 0} → ℕ → Result ℕ E → ControlFlow ℕ ℕ
after_read done (Err e) = Break 0
after_read done (Ok zero) = Break done
after_read done (Ok (suc n)) = Continue (done + suc n)

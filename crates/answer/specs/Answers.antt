-- The answer of a call (document 01, "Who is at fault"; the byte: document 02, ask 2): number, line, byte, count.
use Rattle.std.specs.Prelude.{ℕ, ◌+◌, ◌*◌, ◌/◌, ◌%◌}
use Rattle.answer.specs.declared.Answer.{Answer}

-- Accepted is 0, 0, 0 and the count.
abbrev pub accepted_with : ℕ → Answer
accepted_with count = record { number = 0; line = 0; byte = 0; count = count }

-- A refusal has its number, the line at fault (0 where no text line is), the place in it where the fault starts, from 1, and count 0.
abbrev pub refused_in : ℕ → ℕ → ℕ → Answer
refused_in number line byte = record { number = number; line = line; byte = byte; count = 0 }

-- Where no single place is at fault the byte is 0.
abbrev pub refused_at : ℕ → ℕ → Answer
refused_at number line = refused_in number line 0

-- An answer but for its byte: what document 01 gave.
abbrev pub without_byte : Answer → Answer
without_byte a = record { number = a.number; line = a.line; byte = 0; count = a.count }

-- For C one number: byte times 2 to the 48, plus number times 2 to the 32, plus line times 2 to the 16, plus count.
abbrev pub code_of : Answer → ℕ
code_of a = a.byte * 281474976710656 + a.number * 4294967296 + (a.line * 65536 + a.count)

-- What the macros of `include/runin.h` take out of that number: RUNIN_BYTE, RUNIN_NUMBER, RUNIN_LINE, RUNIN_COUNT.
abbrev pub byte_in : ℕ → ℕ
byte_in code = code / 281474976710656

abbrev pub number_in : ℕ → ℕ
number_in code = code / 4294967296 % 65536

abbrev pub line_in : ℕ → ℕ
line_in code = code / 65536 % 65536

abbrev pub count_in : ℕ → ℕ
count_in code = code % 65536

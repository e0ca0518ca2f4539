-- What writing a pattern answers and leaves in the text buffer.
use Rattle.std.specs.Prelude.{ℕ, Bool, false, not, ◌&&◌, List, [], ◌∷◌, ◌++◌, eqb, ltb, length, take, drop}
use Rattle.answer.specs.declared.Answer.{Answer}
use Rattle.answer.specs.Answers.{accepted_with, refused_at, refused_in}
use Rattle.answer.specs.Faults.{Fault, when, first_fault, answer_or, kept_or}
use Rattle.text.specs.Split.{split}
use Rattle.text.specs.Lines.{TextLine, lines_of, whole}
use Rattle.layout.specs.Layout.{most_line, pattern_length}
use Rattle.pattern_header.specs.Header.{is_header, label_count}
use Rattle.pattern_byte.specs.Header.{header_text_at}
use Rattle.pattern_buffer.specs.Meaning.{labels_in}
use Rattle.pattern_buffer.specs.Valid.{is_pattern}
use Rattle.pattern_texts.specs.Spelled.{text_under}

-- The bytes of a line are a header that names c labels.
abbrev pub names : ℕ → List ℕ → Bool
names c bytes = is_header (split 32 bytes) && eqb (label_count (split 32 bytes)) c

abbrev pub one_header : ℕ → List TextLine → Bool
one_header c [] = false
one_header c (l ∷ []) = whole most_line l && names c l.bytes
one_header c (l ∷ (m ∷ ls)) = false

-- A header text is one whole line, a header that names c labels.
unfoldable pub header_fits : ℕ → List ℕ → Bool
header_fits c header = one_header c (lines_of header)

-- The output: the header text as it is, and a line for each state of each bead.
unfoldable pub written : List ℕ → List ℕ → List ℕ
written header b = text_under header b

-- Numbers past 2,074 do not matter.
abbrev pub pattern_written : List ℕ → List ℕ → List ℕ
pattern_written header pattern = written header (take pattern_length pattern)

-- 8: the text buffer is shorter than the output.
abbrev pub room_faults : List ℕ → List ℕ → List ℕ → List Fault
room_faults b header text = when (ltb (length text) (length (written header b))) (refused_at 8 0) ∷ []

-- 6, then 12, then 8, of a pattern buffer of its documented length. Whatever is wrong with the header text is 12, in line 1, with its byte.
abbrev pub test_faults : List ℕ → List ℕ → List ℕ → List Fault
test_faults b header text =
    when (not (is_pattern b)) (refused_at 6 0)
    ∷ when (not (header_fits (labels_in b) header)) (refused_in 12 1 (header_text_at header))
    ∷ room_faults b header text

-- The refusals: 2, the pattern buffer is shorter than 2,074; then those.
abbrev pub write_faults : List ℕ → List ℕ → List ℕ → List Fault
write_faults pattern header text =
    when (ltb (length pattern) pattern_length) (refused_at 2 0) ∷ test_faults (take pattern_length pattern) header text

-- The same as they were before there was a byte.
abbrev pub faults_before : List ℕ → List ℕ → List ℕ → List Fault
faults_before pattern header text =
    when (ltb (length pattern) pattern_length) (refused_at 2 0)
    ∷ when (not (is_pattern (take pattern_length pattern))) (refused_at 6 0)
    ∷ when (not (header_fits (labels_in (take pattern_length pattern)) header)) (refused_at 12 1)
    ∷ room_faults (take pattern_length pattern) header text

-- Accepted counts the output's bytes.
abbrev pub write_answer : List ℕ → List ℕ → List ℕ → Answer
write_answer pattern header text =
    answer_or (first_fault (write_faults pattern header text)) (accepted_with (length (pattern_written header pattern)))

-- The call is accepted.
abbrev pub accepts : List ℕ → List ℕ → List ℕ → Bool
accepts pattern header text = eqb (write_answer pattern header text).number 0

-- The output in front of a text buffer, the rest as it was.
abbrev pub in_front : List ℕ → List ℕ → List ℕ
in_front output text = output ++ drop (length output) text

abbrev pub text_after : List ℕ → List ℕ → List ℕ → List ℕ
text_after pattern header text = kept_or (first_fault (write_faults pattern header text)) text (in_front (pattern_written header pattern) text)

-- Calls of the writer, computed: each refusal, each pair that two refusals claim, and text buffers around the output's length.
-- Assumes nothing.
use Prim.Native.Nat.{ℕ, ◌-◌}
use mathlib.Core.Path.{◌≡◌, refl, ap, ◌∙◌, fun_ext}
use mathlib.Core.Bool.{Bool, true, false, not, cond}
use mathlib.Core.List.{List, [], ◌∷◌, ◌++◌, map}
use lib.Dec.{ltb}
use lib.ListN.{length, take, replicate, length-append}
use lib.Seq.{take_at, take_all}
use native.Mathlib.Omega.{arith}
use Rattle.rules.specs.Rules.{rules, rule_in, is_rule_in, word_in, one_next_in}
use Rattle.sets.specs.Sets.{set_of, members_from}
use Rattle.sets.proofs.Truth.{yes_true}
use Rattle.lists.specs.Tables.{table}
use Rattle.answer.specs.declared.Answer.{Answer}
use Rattle.answer.specs.Answers.{accepted_with, refused_at, refused_in}
use Rattle.answer.specs.Faults.{Fault, when, first_fault, answer_or, kept_or}
use Rattle.text.specs.Split.{split, joined}
use Rattle.text.specs.Lines.{as_lines, printable}
use Rattle.text.specs.Walk.{accepted, walk}
use Rattle.numbers.specs.Numbers.{digits, value_from, decimal, spell_in}
use Rattle.numbers.specs.Listed.{are_numbers}
use Rattle.layout.specs.Layout.{pattern_length}
use Rattle.pattern_header.specs.Header.{same_fields, name_bytes, are_names, among, distinct}
use Rattle.pattern_order.specs.StateLine.{follows_last, breaks_turns}
use Rattle.pattern_store.specs.Next.{states_of, all_within, all_single}
use Rattle.pattern_store.specs.Format.{Known, pattern_text}
use Rattle.pattern_store.specs.Buffer.{bead_count, rule_of_bead, accepting_of, next_of, buffer_of}
use Rattle.pattern_buffer.specs.Meaning.{labels_in}
use Rattle.pattern_buffer.specs.Valid.{is_pattern}
use Rattle.pattern_texts.specs.Spelled.{rows_of_bead, rows_of_beads, state_lines_of, row_lines}
use Rattle.pattern_texts.proofs.Buffers.{length_buffer}
use Rattle.pattern_texts.proofs.PatternBuffers.{pattern_buffers}
use Rattle.lists.specs.Leftmost.{leftmost_from}
use Rattle.fields.specs.Fields.{part_start}
use Rattle.line_places.specs.Place.{place_at, unprintable_place, ranked_at}
use Rattle.pattern_places.specs.Place.{wrong_name}
use Rattle.pattern_byte.specs.Header.{header_text_at}
use Rattle.pattern_writer.specs.Writer.{header_fits, written, write_answer, text_after, in_front}

-- ---- the pattern

-- `bead rule state final a`
unfoldable pub header : List ℕ
header = 98 ∷ 101 ∷ 97 ∷ 100 ∷ 32 ∷ 114 ∷ 117 ∷ 108 ∷ 101 ∷ 32 ∷ 115 ∷ 116 ∷ 97 ∷ 116 ∷ 101 ∷ 32 ∷ 102 ∷ 105 ∷ 110 ∷ 97 ∷ 108 ∷ 32 ∷ 97 ∷ 10 ∷ []

-- `1 SOME 0 1 1` and `2 ALL 0 0 1`
unfoldable pub lines : List ℕ
lines =
    49 ∷ 32 ∷ 83 ∷ 79 ∷ 77 ∷ 69 ∷ 32 ∷ 48 ∷ 32 ∷ 49 ∷ 32 ∷ 49 ∷ 10
    ∷ 50 ∷ 32 ∷ 65 ∷ 76 ∷ 76 ∷ 32 ∷ 48 ∷ 32 ∷ 48 ∷ 32 ∷ 49 ∷ 10 ∷ []

-- What the reader knows after this text.
abbrev pub two : Known
two = record {
  labels = 1;
  rows =
      record { bead = 1; rule = 1; state = 0; accepting = 1; next = 1 ∷ [] }
      ∷ record { bead = 2; rule = 2; state = 0; accepting = 0; next = 1 ∷ [] }
      ∷ [];
}

reads : pattern_text (header ++ lines) ≡ accepted two
unfolding header lines walk as_lines split printable digits value_from decimal same_fields name_bytes are_names among distinct rules rule_in is_rule_in one_next_in follows_last breaks_turns states_of all_within all_single members_from are_numbers
reads = refl

-- ---- what the answer depends on

-- Of the pattern buffer its length, test 6, its label count and its rows' lines.
pub record Facts : Type 0 where
  pub size : ℕ
  pub is : Bool
  pub labels : ℕ
  pub rows : List ℕ

abbrev pub facts_of : List ℕ → Facts
facts_of pattern = record {
  size = length pattern;
  is = is_pattern (take pattern_length pattern);
  labels = labels_in (take pattern_length pattern);
  rows = row_lines (state_lines_of (take pattern_length pattern));
}

abbrev pub faults_by : Facts → List ℕ → List ℕ → List Fault
faults_by f h text =
    when (ltb f.size pattern_length) (refused_at 2 0)
    ∷ when (not f.is) (refused_at 6 0)
    ∷ when (not (header_fits f.labels h)) (refused_in 12 1 (header_text_at h))
    ∷ when (ltb (length text) (length (h ++ f.rows))) (refused_at 8 0)
    ∷ []

abbrev pub answer_by : Facts → List ℕ → List ℕ → Answer
answer_by f h text = answer_or (first_fault (faults_by f h text)) (accepted_with (length (h ++ f.rows)))

abbrev pub text_by : Facts → List ℕ → List ℕ → List ℕ
text_by f h text = kept_or (first_fault (faults_by f h text)) text (in_front (h ++ f.rows) text)

answer_by_lem : (pattern h text : List ℕ) → write_answer pattern h text ≡ answer_by (facts_of pattern) h text
unfolding written
answer_by_lem pattern h text = refl

text_by_lem : (pattern h text : List ℕ) → text_after pattern h text ≡ text_by (facts_of pattern) h text
unfolding written
text_by_lem pattern h text = refl

-- ---- three pattern buffers

pub data Kind : Type 0 where
  right : Kind
  wrong : Kind
  small : Kind

-- The pattern's numbers, and a number past them; zeros; one number too few.
abbrev pub buffer_by : Kind → List ℕ
buffer_by right = buffer_of two ++ (7 ∷ [])
buffer_by wrong = replicate pattern_length 0
buffer_by small = replicate 2073 0

abbrev pub facts_by : Kind → Facts
facts_by right = record { size = 2075; is = true; labels = 1; rows = lines }
facts_by wrong = record { size = pattern_length; is = false; labels = 0; rows = [] }
facts_by small = record { size = 2073; is = false; labels = 0; rows = [] }

front : take pattern_length (buffer_of two ++ (7 ∷ [])) ≡ buffer_of two
front = take_at (buffer_of two) (7 ∷ []) pattern_length (length_buffer two)

right_is : is_pattern (buffer_of two) ≡ true
right_is =
    yes_true (is_pattern (buffer_of two))
    ((pattern_buffers (buffer_of two)).1
    (record {
      long = (let h = length_buffer two in omega arith);
      text = header ++ lines;
      known = two;
      reads = reads;
      gives = take_all pattern_length (buffer_of two) (let h = length_buffer two in omega arith);
    }))

right_rows : row_lines (state_lines_of (buffer_of two)) ≡ lines
unfolding lines row_lines rows_of_bead rows_of_beads rules word_in joined spell_in table set_of bead_count rule_of_bead accepting_of next_of states_of
right_rows = refl

abbrev told : ℕ → Bool → ℕ → List ℕ → Facts
told n i c l = record { size = n; is = i; labels = c; rows = l }

facts_right : facts_of (buffer_by right) ≡ facts_by right
facts_right =
    let b = buffer_of two ++ (7 ∷ []) in
    let n : length b ≡ 2075 = length-append (buffer_of two) (7 ∷ []) ∙ (let h = length_buffer two in omega arith) in
    ap (λ (m : ℕ). told m (is_pattern (take pattern_length b)) (labels_in (take pattern_length b)) (row_lines (state_lines_of (take pattern_length b)))) n
    ∙ ap (λ (t : List ℕ). told 2075 (is_pattern t) (labels_in t) (row_lines (state_lines_of t))) front
    ∙ ap (λ (i : Bool). told 2075 i 1 (row_lines (state_lines_of (buffer_of two)))) right_is
    ∙ ap (told 2075 true 1) right_rows

facts : (k : Kind) → facts_of (buffer_by k) ≡ facts_by k
unfolding is_pattern row_lines rows_of_beads
facts right = facts_right
facts wrong = refl
facts small = refl

-- ---- the calls

-- A pattern buffer, a header text, how long the text buffer is (of bytes 9), the answer, and whether the text buffer holds the output.
pub record Call : Type 0 where
  pub kind : Kind
  pub head : List ℕ
  pub room : ℕ
  pub answer : Answer
  pub holds : Bool

-- A header text that is at fault under one label, and its byte.
pub record Faulty : Type 0 where
  pub byte : ℕ
  pub head : List ℕ

abbrev at : ℕ → List ℕ → Faulty
at b h = record { byte = b; head = h }

unfoldable pub faulty : List Faulty
faulty =
    at 0 ([])  -- nothing
    ∷ at 1 (10 ∷ [])  -- a newline alone
    -- `bead rule state final a`
    ∷ at 0 (98 ∷ 101 ∷ 97 ∷ 100 ∷ 32 ∷ 114 ∷ 117 ∷ 108 ∷ 101 ∷ 32 ∷ 115 ∷ 116 ∷ 97 ∷ 116 ∷ 101 ∷ 32 ∷ 102 ∷ 105 ∷ 110 ∷ 97 ∷ 108 ∷ 32 ∷ 97 ∷ [])  -- no newline
    -- `\nbead rule state final a\n`
    ∷ at 0 (10 ∷ 98 ∷ 101 ∷ 97 ∷ 100 ∷ 32 ∷ 114 ∷ 117 ∷ 108 ∷ 101 ∷ 32 ∷ 115 ∷ 116 ∷ 97 ∷ 116 ∷ 101 ∷ 32 ∷ 102 ∷ 105 ∷ 110 ∷ 97 ∷ 108 ∷ 32 ∷ 97 ∷ 10 ∷ [])  -- a newline first
    -- `bead rule state final a\n\n`
    ∷ at 0 (98 ∷ 101 ∷ 97 ∷ 100 ∷ 32 ∷ 114 ∷ 117 ∷ 108 ∷ 101 ∷ 32 ∷ 115 ∷ 116 ∷ 97 ∷ 116 ∷ 101 ∷ 32 ∷ 102 ∷ 105 ∷ 110 ∷ 97 ∷ 108 ∷ 32 ∷ 97 ∷ 10 ∷ 10 ∷ [])  -- two newlines
    -- `bead rule state final a\n1 SOME 0 1 1\n`
    ∷ at 0 (98 ∷ 101 ∷ 97 ∷ 100 ∷ 32 ∷ 114 ∷ 117 ∷ 108 ∷ 101 ∷ 32 ∷ 115 ∷ 116 ∷ 97 ∷ 116 ∷ 101 ∷ 32 ∷ 102 ∷ 105 ∷ 110 ∷ 97 ∷ 108 ∷ 32 ∷ 97 ∷ 10 ∷ 49 ∷ 32 ∷ 83 ∷ 79 ∷ 77 ∷ 69 ∷ 32 ∷ 48 ∷ 32 ∷ 49 ∷ 32 ∷ 49 ∷ 10 ∷ [])  -- a second line
    -- `bead rule state final a\na`
    ∷ at 0 (98 ∷ 101 ∷ 97 ∷ 100 ∷ 32 ∷ 114 ∷ 117 ∷ 108 ∷ 101 ∷ 32 ∷ 115 ∷ 116 ∷ 97 ∷ 116 ∷ 101 ∷ 32 ∷ 102 ∷ 105 ∷ 110 ∷ 97 ∷ 108 ∷ 32 ∷ 97 ∷ 10 ∷ 97 ∷ [])  -- a byte behind the line
    -- `bead rule state final a\r\n`
    ∷ at 24 (98 ∷ 101 ∷ 97 ∷ 100 ∷ 32 ∷ 114 ∷ 117 ∷ 108 ∷ 101 ∷ 32 ∷ 115 ∷ 116 ∷ 97 ∷ 116 ∷ 101 ∷ 32 ∷ 102 ∷ 105 ∷ 110 ∷ 97 ∷ 108 ∷ 32 ∷ 97 ∷ 13 ∷ 10 ∷ [])  -- a carriage return
    -- `bead\trule state final a\n`
    ∷ at 5 (98 ∷ 101 ∷ 97 ∷ 100 ∷ 9 ∷ 114 ∷ 117 ∷ 108 ∷ 101 ∷ 32 ∷ 115 ∷ 116 ∷ 97 ∷ 116 ∷ 101 ∷ 32 ∷ 102 ∷ 105 ∷ 110 ∷ 97 ∷ 108 ∷ 32 ∷ 97 ∷ 10 ∷ [])  -- a tab
    -- `bead rule state final a\127\n`
    ∷ at 24 (98 ∷ 101 ∷ 97 ∷ 100 ∷ 32 ∷ 114 ∷ 117 ∷ 108 ∷ 101 ∷ 32 ∷ 115 ∷ 116 ∷ 97 ∷ 116 ∷ 101 ∷ 32 ∷ 102 ∷ 105 ∷ 110 ∷ 97 ∷ 108 ∷ 32 ∷ 97 ∷ 127 ∷ 10 ∷ [])  -- byte 127
    ∷ at 0 (replicate 241 97 ++ (10 ∷ []))  -- 241 bytes before the newline
    -- `bead rule state a\n`
    ∷ at 17 (98 ∷ 101 ∷ 97 ∷ 100 ∷ 32 ∷ 114 ∷ 117 ∷ 108 ∷ 101 ∷ 32 ∷ 115 ∷ 116 ∷ 97 ∷ 116 ∷ 101 ∷ 32 ∷ 97 ∷ 10 ∷ [])  -- three names of columns
    -- `bead rule state final\n`
    ∷ at 0 (98 ∷ 101 ∷ 97 ∷ 100 ∷ 32 ∷ 114 ∷ 117 ∷ 108 ∷ 101 ∷ 32 ∷ 115 ∷ 116 ∷ 97 ∷ 116 ∷ 101 ∷ 32 ∷ 102 ∷ 105 ∷ 110 ∷ 97 ∷ 108 ∷ 10 ∷ [])  -- no label
    -- `Bead rule state final a\n`
    ∷ at 1 (66 ∷ 101 ∷ 97 ∷ 100 ∷ 32 ∷ 114 ∷ 117 ∷ 108 ∷ 101 ∷ 32 ∷ 115 ∷ 116 ∷ 97 ∷ 116 ∷ 101 ∷ 32 ∷ 102 ∷ 105 ∷ 110 ∷ 97 ∷ 108 ∷ 32 ∷ 97 ∷ 10 ∷ [])  -- `Bead`
    -- `bead rule state final a b\n`
    ∷ at 0 (98 ∷ 101 ∷ 97 ∷ 100 ∷ 32 ∷ 114 ∷ 117 ∷ 108 ∷ 101 ∷ 32 ∷ 115 ∷ 116 ∷ 97 ∷ 116 ∷ 101 ∷ 32 ∷ 102 ∷ 105 ∷ 110 ∷ 97 ∷ 108 ∷ 32 ∷ 97 ∷ 32 ∷ 98 ∷ 10 ∷ [])  -- one label more than the pattern has
    -- `bead rule state final a a\n`
    ∷ at 25 (98 ∷ 101 ∷ 97 ∷ 100 ∷ 32 ∷ 114 ∷ 117 ∷ 108 ∷ 101 ∷ 32 ∷ 115 ∷ 116 ∷ 97 ∷ 116 ∷ 101 ∷ 32 ∷ 102 ∷ 105 ∷ 110 ∷ 97 ∷ 108 ∷ 32 ∷ 97 ∷ 32 ∷ 97 ∷ 10 ∷ [])  -- a label twice
    ∷ []

abbrev refusing : Kind → List ℕ → ℕ → Answer → Call
refusing k h n a = record { kind = k; head = h; room = n; answer = a; holds = false }

abbrev writing : ℕ → Call
writing n = record { kind = right; head = header; room = n; answer = accepted_with 49; holds = true }

unfoldable pub calls : List Call
calls =
    refusing small header 49 (refused_at 2 0)
    ∷ refusing small [] 0 (refused_at 2 0)
    ∷ refusing wrong header 49 (refused_at 6 0)
    ∷ refusing wrong [] 49 (refused_at 6 0)
    ∷ refusing wrong [] 0 (refused_at 6 0)
    ∷ refusing right [] 0 (refused_at 12 1)
    ∷ refusing right header 0 (refused_at 8 0)
    ∷ refusing right header 48 (refused_at 8 0)
    ∷ writing 49
    ∷ writing 50
    ∷ map (λ f. refusing right f.head 99 (refused_in 12 1 f.byte)) faulty

pub calls_count : length calls ≡ 26
unfolding calls faulty
calls_count = refl

abbrev pub room_of : Call → List ℕ
room_of c = replicate c.room 9

abbrev pub leaves : Call → List ℕ
leaves c = cond c.holds (header ++ lines ++ replicate (c.room - 49) 9) (room_of c)

answered : map (λ c. answer_by (facts_by c.kind) c.head (room_of c)) calls ≡ map (λ c. c.answer) calls
unfolding calls faulty header lines header_fits header_text_at ranked_at place_at part_start leftmost_from unprintable_place wrong_name first_fault answer_or as_lines split printable same_fields name_bytes are_names among distinct
answered = refl

left : map (λ c. text_by (facts_by c.kind) c.head (room_of c)) calls ≡ map leaves calls
unfolding calls faulty header lines header_fits first_fault kept_or as_lines split printable same_fields name_bytes are_names among distinct
left = refl

-- Each call has its answer,
pub answers : map (λ c. write_answer (buffer_by c.kind) c.head (room_of c)) calls ≡ map (λ c. c.answer) calls
answers =
    ap (λ (f : Call → Answer). map f calls)
    (fun_ext (λ c. answer_by_lem (buffer_by c.kind) c.head (room_of c) ∙ ap (λ (f : Facts). answer_by f c.head (room_of c)) (facts c.kind)))
    ∙ answered

-- and leaves its bytes.
pub texts : map (λ c. text_after (buffer_by c.kind) c.head (room_of c)) calls ≡ map leaves calls
texts =
    ap (λ (f : Call → List ℕ). map f calls)
    (fun_ext (λ c. text_by_lem (buffer_by c.kind) c.head (room_of c) ∙ ap (λ (f : Facts). text_by f c.head (room_of c)) (facts c.kind)))
    ∙ left

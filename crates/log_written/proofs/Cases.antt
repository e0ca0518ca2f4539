-- The order of the refusals, on a list of calls: one for each refusal, one for each two that apply together, and rooms around the length.
-- Assumes nothing.
use Prim.Native.Nat.{ℕ, ◌+◌}
use mathlib.Core.Path.{◌≡◌, refl}
use mathlib.Core.Bool.{true, false}
use mathlib.Core.List.{List, [], ◌∷◌, ◌++◌, map}
use native.Mathlib.Omega.{arith}
use lib.ListN.{length, get_or, take, replicate}
use Rattle.sets.proofs.Truth.{yes_true, no_false}
use Rattle.answer.specs.declared.Answer.{Answer}
use Rattle.answer.specs.Answers.{accepted_with, refused_at}
use Rattle.answer.specs.Faults.{first_fault, answer_or}
use Rattle.text.specs.Split.{joined, split}
use Rattle.text.specs.Lines.{as_lines, printable}
use Rattle.text.specs.Walk.{accepted, walk}
use Rattle.numbers.specs.Numbers.{spell_in, digits, value_from, decimal}
use Rattle.numbers.specs.Listed.{are_numbers}
use Rattle.layout.specs.Layout.{log_length, most_labels, most_board}
use Rattle.log_line.specs.Header.{place_of}
use Rattle.log_line.specs.Step.{Step, rising_below, link_count}
use Rattle.log_line.specs.Format.{log_text}
use Rattle.log_store.specs.Buffer.{begins, links, buffer_of}
use Rattle.log_buffer.specs.Valid.{is_log}
use Rattle.log_buffer.proofs.Sound.{sound_iff}
use Rattle.log_texts.specs.Spelled.{steps_up_to, step_lines, text_of}
use Rattle.log_texts.proofs.LogText.{known}
use Rattle.log_texts.proofs.LogBuffers.{given_passes}
use Rattle.log_writer.specs.Writer.{write_answer}

-- Step 0; a step on board 7 with a label set that only a label count of 16 allows; a step with two links.
abbrev steps : List Step
steps =
    record { board = 0; labels = 0; preds = [] }
    ∷ record { board = 7; labels = 40000; preds = 0 ∷ [] }
    ∷ record { board = most_board; labels = 5; preds = 0 ∷ 1 ∷ [] }
    ∷ []

unfoldable pub three_steps : List ℕ
three_steps = buffer_of steps

-- No step at all: no text gives it.
unfoldable pub no_step : List ℕ
no_step = replicate log_length 0

three_length : length three_steps ≡ log_length
unfolding three_steps begins links
three_length = refl

none_length : length no_step ≡ log_length
unfolding no_step
none_length = refl

three_whole : take log_length three_steps ≡ three_steps
unfolding three_steps begins links
three_whole = refl

three_says : log_text most_labels (text_of three_steps) ≡ accepted (known steps)
unfolding three_steps begins links steps_up_to step_lines joined spell_in walk as_lines split printable digits value_from decimal place_of are_numbers rising_below link_count
three_says = refl

-- `vertex board labels preds`, `0 0 0 -`, `1 7 40000 0`, `2 255 5 0,1`
pub three_text : text_of three_steps ≡
    118 ∷ 101 ∷ 114 ∷ 116 ∷ 101 ∷ 120 ∷ 32 ∷ 98 ∷ 111 ∷ 97 ∷ 114 ∷ 100 ∷ 32 ∷ 108 ∷ 97 ∷ 98 ∷ 101 ∷ 108 ∷ 115 ∷ 32 ∷ 112 ∷ 114 ∷ 101 ∷ 100 ∷ 115 ∷ 10
    ∷ 48 ∷ 32 ∷ 48 ∷ 32 ∷ 48 ∷ 32 ∷ 45 ∷ 10
    ∷ 49 ∷ 32 ∷ 55 ∷ 32 ∷ 52 ∷ 48 ∷ 48 ∷ 48 ∷ 48 ∷ 32 ∷ 48 ∷ 10
    ∷ 50 ∷ 32 ∷ 50 ∷ 53 ∷ 53 ∷ 32 ∷ 53 ∷ 32 ∷ 48 ∷ 44 ∷ 49 ∷ 10 ∷ []
unfolding three_steps begins links steps_up_to step_lines joined spell_in
three_text = refl

three_size : length (text_of three_steps) ≡ 58
unfolding three_steps begins links steps_up_to step_lines joined spell_in
three_size = refl

-- The same, and behind it a number that no call looks at.
unfoldable pub three_and_more : List ℕ
three_and_more = three_steps ++ (9 ∷ [])

more_length : length three_and_more ≡ 7171
unfolding three_and_more three_steps begins links
more_length = refl

more_front : take log_length three_and_more ≡ three_steps
unfolding three_and_more three_steps begins links
more_front = refl

three_given : take log_length three_steps ≡ buffer_of steps
unfolding three_steps
three_given = three_whole

-- The steps pass under 16 labels and not under 3, and a buffer without steps does not pass.
three_passes : is_log most_labels three_steps ≡ true
three_passes = yes_true (is_log most_labels three_steps) (given_passes most_labels three_steps (text_of three_steps) (known steps) three_says (omega (arith, three_length)) three_given)

labels_are : get_or three_steps 2 0 ≡ 40000
unfolding three_steps
labels_are = refl

count_is : get_or three_steps 0 0 ≡ 3
unfolding three_steps
count_is = refl

three_fails : is_log 3 three_steps ≡ false
three_fails = no_false (is_log 3 three_steps) (λ t. let h = ((sound_iff 3 three_steps).0 t).labelled 1 (omega (arith, count_is)) (λ e. absurd (omega arith)) in omega (arith, labels_are))

none_count : get_or (take log_length no_step) 0 0 ≡ 0
unfolding no_step
none_count = refl

none_fails : is_log most_labels (take log_length no_step) ≡ false
none_fails = no_false (is_log most_labels (take log_length no_step)) (λ t. let h = ((sound_iff most_labels (take log_length no_step)).0 t).started in omega (arith, none_count))

-- ---- the calls

pub record Call : Type 0 where
  pub log : List ℕ
  pub count : ℕ
  pub room : ℕ
  pub answer : Answer

-- A text buffer with so many places.
abbrev pub places : ℕ → List ℕ
places n = replicate n 7

abbrev pub answered : Call → Answer
answered c = write_answer c.log c.count (places c.room)

unfoldable pub calls : List Call
calls =
    record { log = []; count = 0; room = 0; answer = refused_at 1 0 }
    ∷ record { log = []; count = most_labels; room = 100; answer = refused_at 1 0 }
    ∷ record { log = no_step; count = 0; room = 0; answer = refused_at 5 0 }
    ∷ record { log = no_step; count = most_labels + 1; room = 0; answer = refused_at 5 0 }
    ∷ record { log = three_steps; count = most_labels + 1; room = 58; answer = refused_at 5 0 }
    ∷ record { log = no_step; count = most_labels; room = 0; answer = refused_at 7 0 }
    ∷ record { log = three_steps; count = 3; room = 58; answer = refused_at 7 0 }
    ∷ record { log = three_steps; count = 3; room = 0; answer = refused_at 7 0 }
    ∷ record { log = three_steps; count = most_labels; room = 0; answer = refused_at 8 0 }
    ∷ record { log = three_steps; count = most_labels; room = 57; answer = refused_at 8 0 }
    ∷ record { log = three_steps; count = most_labels; room = 58; answer = accepted_with 58 }
    ∷ record { log = three_steps; count = most_labels; room = 59; answer = accepted_with 58 }
    ∷ record { log = three_and_more; count = most_labels; room = 58; answer = accepted_with 58 }
    ∷ []

pub calls_count : length calls ≡ 13
unfolding calls
calls_count = refl

-- 1 before 5, 5 before 7, 7 before 8; a room of just the text's length is accepted, one byte less is 8.
pub ordered : map answered calls ≡ map (λ c. c.answer) calls
unfolding calls first_fault answer_or
ordered = rw (three_length, none_length, more_length, three_whole, more_front, three_passes, three_fails, none_fails, three_size)

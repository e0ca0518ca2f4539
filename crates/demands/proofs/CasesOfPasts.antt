-- Two pairs of logs, as texts, that meet what demand 3 asks of a pair: one alike in the past of a step, one that only adds. Each is an
-- accepted pair of calls, through the definitions that the contracts cite.
-- Assumes nothing.
use Prim.Native.Nat.{ℕ, ◌<◌}
use mathlib.Core.Path.{◌≡◌, refl, sym, ap, ◌∙◌, subst}
use mathlib.Core.Bool.{true}
use mathlib.Core.List.{List, [], ◌∷◌, map}
use native.Mathlib.Omega.{arith}
use lib.Dec.{T}
use lib.ListN.{length, get_or, take, length-replicate}
use lib.Seq.{take_all}
use Rattle.rules.specs.Rules.{rules, rule_in, is_rule_in, one_next_in}
use Rattle.lists.specs.Places.{at}
use Rattle.sets.specs.Sets.{set_of, some_below, all_below, members_from}
use Rattle.sets.proofs.Truth.{true_yes}
use Rattle.lists.specs.Tables.{table}
use Rattle.text.specs.Split.{split}
use Rattle.text.specs.Lines.{as_lines, printable}
use Rattle.fields.specs.Fields.{same_bytes}
use Rattle.numbers.specs.Numbers.{digits, value_from, decimal}
use Rattle.text.specs.Walk.{Outcome, accepted, faulty, walk}
use Rattle.layout.specs.Layout.{rule_at, pattern_length, board_at, log_length, result_length, work_length}
use Rattle.pattern_header.specs.Header.{same_fields, name_bytes, are_names, among, distinct}
use Rattle.pattern_order.specs.StateLine.{follows_last, breaks_turns}
use Rattle.pattern_store.specs.Next.{states_of, all_within, all_single}
use Rattle.pattern_store.specs.Format.{Known as PatternKnown, pattern_text}
use Rattle.pattern_store.specs.Buffer.{bead_count, rule_of_bead, accepting_of, next_of, buffer_of as pattern_buffer}
use Rattle.pattern_buffer.specs.Meaning.{beads_in, pattern_of, modalities, modality_in}
use Rattle.pattern_texts.proofs.Buffers.{length_buffer}
use Rattle.log_line.specs.Header.{place_of}
use Rattle.numbers.specs.Listed.{are_numbers}
use Rattle.log_line.specs.Step.{rising_below, link_count}
use Rattle.log_line.specs.Format.{Known as LogKnown, log_text}
use Rattle.log_store.specs.Buffer.{begins, links, buffer_of as log_buffer}
use Rattle.log_buffer.specs.Meaning.{steps_in, log_of, label_sets, log_of_room}
use Rattle.log_texts.proofs.LogBuffers.{given_passes}
use Rattle.log_buffer.proofs.Meaning.{size_is, log_well_formed}
use Rattle.necklace.specs.Dag.{Dag, WellFormed}
use Rattle.necklace.specs.Past.{Alike, OnlyAdds}
use Rattle.necklace.specs.Compute.{row, prefixes, pivots, before, seek, holds?, some?, all?, backward, pass}
use Rattle.necklace.specs.Tests.{route?, past?, alike?, only_adds?}
use Rattle.necklace.proofs.Tests.{alike_agrees, only_adds_agrees}
use Rattle.judging.specs.Judge.{log_in, accepts, result_after}
use Rattle.results.specs.Result.{zeros, row_in}
use Rattle.demands.specs.Demands.{rule_holds}
use Rattle.judging.proofs.Calls.{accepted_call}
use Rattle.demands.proofs.Whole.{whole, whole_row}
use Rattle.demands.proofs.Demands.{equal_pasts, only_adds_some}
use Rattle.demands.proofs.Cases.{listing_pattern, some_clean, listing_log, Case, row_under, row_by, row_of_texts, ten, table_up, front_buffer, front_row_by, rows_same}

-- The listing's log without its last step, with another board at each step, and with other labels and links at steps 2 and 4: the past of
-- step 5, which is 0, 1, 3 and 5, is as it was.
--     vertex board labels preds
--     0 7 0 -
--     1 0 1 0
--     2 9 1 1
--     3 5 2 1
--     4 0 4 0
--     5 255 0 3
unfoldable pub shorter_log : List ℕ
shorter_log =
    118 ∷ 101 ∷ 114 ∷ 116 ∷ 101 ∷ 120 ∷ 32 ∷ 98 ∷ 111 ∷ 97 ∷ 114 ∷ 100 ∷ 32 ∷ 108 ∷ 97 ∷ 98 ∷ 101 ∷ 108 ∷ 115 ∷ 32 ∷ 112 ∷ 114 ∷ 101 ∷ 100 ∷ 115 ∷ 10
    ∷ 48 ∷ 32 ∷ 55 ∷ 32 ∷ 48 ∷ 32 ∷ 45 ∷ 10
    ∷ 49 ∷ 32 ∷ 48 ∷ 32 ∷ 49 ∷ 32 ∷ 48 ∷ 10
    ∷ 50 ∷ 32 ∷ 57 ∷ 32 ∷ 49 ∷ 32 ∷ 49 ∷ 10
    ∷ 51 ∷ 32 ∷ 53 ∷ 32 ∷ 50 ∷ 32 ∷ 49 ∷ 10
    ∷ 52 ∷ 32 ∷ 48 ∷ 32 ∷ 52 ∷ 32 ∷ 48 ∷ 10
    ∷ 53 ∷ 32 ∷ 50 ∷ 53 ∷ 53 ∷ 32 ∷ 48 ∷ 32 ∷ 51 ∷ 10 ∷ []

-- The listing's log with a link and a label more at step 3: from step 2, and vent.
--     vertex board labels preds
--     0 0 0 -
--     1 1 1 0
--     2 2 4 0,1
--     3 1 6 1,2
--     4 2 2 2,3
--     5 1 0 3
--     6 3 0 1
unfoldable pub more_log : List ℕ
more_log =
    118 ∷ 101 ∷ 114 ∷ 116 ∷ 101 ∷ 120 ∷ 32 ∷ 98 ∷ 111 ∷ 97 ∷ 114 ∷ 100 ∷ 32 ∷ 108 ∷ 97 ∷ 98 ∷ 101 ∷ 108 ∷ 115 ∷ 32 ∷ 112 ∷ 114 ∷ 101 ∷ 100 ∷ 115 ∷ 10
    ∷ 48 ∷ 32 ∷ 48 ∷ 32 ∷ 48 ∷ 32 ∷ 45 ∷ 10
    ∷ 49 ∷ 32 ∷ 49 ∷ 32 ∷ 49 ∷ 32 ∷ 48 ∷ 10
    ∷ 50 ∷ 32 ∷ 50 ∷ 32 ∷ 52 ∷ 32 ∷ 48 ∷ 44 ∷ 49 ∷ 10
    ∷ 51 ∷ 32 ∷ 49 ∷ 32 ∷ 54 ∷ 32 ∷ 49 ∷ 44 ∷ 50 ∷ 10
    ∷ 52 ∷ 32 ∷ 50 ∷ 32 ∷ 50 ∷ 32 ∷ 50 ∷ 44 ∷ 51 ∷ 10
    ∷ 53 ∷ 32 ∷ 49 ∷ 32 ∷ 48 ∷ 32 ∷ 51 ∷ 10
    ∷ 54 ∷ 32 ∷ 51 ∷ 32 ∷ 48 ∷ 32 ∷ 49 ∷ 10 ∷ []

-- ---- the buffers that texts give

-- None where the text is refused; a log's text is read under three labels.
abbrev pub pattern_by : Outcome PatternKnown → List ℕ
pattern_by (accepted k) = pattern_buffer k
pattern_by (faulty number line) = []

abbrev pub log_by : Outcome LogKnown → List ℕ
log_by (accepted m) = log_buffer m.steps
log_by (faulty number line) = []

abbrev pub pattern_from : List ℕ → List ℕ
pattern_from text = pattern_by (pattern_text text)

abbrev pub log_from : List ℕ → List ℕ
log_from text = log_by (log_text 3 text)

abbrev labels_by : Outcome PatternKnown → ℕ
labels_by (accepted k) = k.labels
labels_by (faulty number line) = 0

-- What the judge leaves for two texts.
abbrev pub result_of : List ℕ → List ℕ → List ℕ
result_of pattern log = result_after (pattern_from pattern) (log_from log) (zeros result_length) (zeros work_length)

-- The judge accepts the buffers that they give.
abbrev pub AcceptedTexts : List ℕ → List ℕ → Type 0
AcceptedTexts pattern log = T (accepts (pattern_from pattern) (log_from log) (zeros result_length) (zeros work_length))

-- ---- what is computed

long : (length (log_from listing_log) ≡ log_length) × (length (log_from shorter_log) ≡ log_length) × (length (log_from more_log) ≡ log_length)
unfolding listing_log shorter_log more_log walk as_lines split printable digits value_from decimal place_of are_numbers rising_below link_count begins links
long = (refl, refl, refl)

-- The first two have different step counts and different boards.
pub other_sizes : map (λ t. steps_in (log_from t)) (listing_log ∷ shorter_log ∷ more_log ∷ []) ≡ 7 ∷ 6 ∷ 7 ∷ []
unfolding listing_log shorter_log more_log walk as_lines split printable digits value_from decimal place_of are_numbers rising_below link_count begins links
other_sizes = refl

abbrev boards : List ℕ → List ℕ
boards log = map (λ v. at (log_from log) (board_at v)) (0 ∷ 1 ∷ 2 ∷ 3 ∷ 4 ∷ 5 ∷ 6 ∷ [])

pub other_boards : map boards (listing_log ∷ shorter_log ∷ []) ≡ (0 ∷ 1 ∷ 2 ∷ 1 ∷ 2 ∷ 1 ∷ 3 ∷ []) ∷ (7 ∷ 0 ∷ 9 ∷ 5 ∷ 0 ∷ 255 ∷ 0 ∷ []) ∷ []
unfolding listing_log shorter_log walk as_lines split printable digits value_from decimal place_of are_numbers rising_below link_count begins links
other_boards = refl

three : (labels_by (pattern_text listing_pattern) ≡ 3) × (labels_by (pattern_text some_clean) ≡ 3)
unfolding listing_pattern some_clean walk as_lines split printable digits value_from decimal same_fields name_bytes are_names among distinct are_numbers rules rule_in is_rule_in one_next_in follows_last breaks_turns states_of all_within all_single bead_count members_from
three = (refl, refl)

some_one : (beads_in (pattern_from some_clean) ≡ 1) × (at (pattern_from some_clean) (rule_at 0) ≡ 1)
unfolding some_clean walk as_lines split printable digits value_from decimal same_fields name_bytes are_names among distinct are_numbers rules rule_in is_rule_in one_next_in follows_last breaks_turns states_of all_within all_single bead_count members_from table rule_of_bead
some_one = (refl, refl)

alike_computed : alike? (log_of_room (log_from listing_log)) (log_of_room (log_from shorter_log)) 5 ≡ true
unfolding listing_log shorter_log walk as_lines split printable digits value_from decimal place_of are_numbers rising_below link_count begins links members_from some_below all_below log_of some? backward pass route? past? alike?
alike_computed = refl

adds_computed : only_adds? (log_of_room (log_from listing_log)) (log_of_room (log_from more_log)) ≡ true
unfolding listing_log more_log walk as_lines split printable digits value_from decimal place_of are_numbers rising_below link_count begins links members_from all_below log_of only_adds?
adds_computed = refl

-- The rows; the listing's own at step 5 is among the marked cases.
unfoldable pub shown : List Case
shown =
    record { pattern = listing_pattern; log = shorter_log; step = 5; numbers = ten (2 ∷ 0 ∷ 1 ∷ 5 ∷ []) }
    ∷ record { pattern = some_clean; log = listing_log; step = 3; numbers = ten (1 ∷ 0 ∷ 3 ∷ []) }
    ∷ record { pattern = some_clean; log = more_log; step = 3; numbers = ten (1 ∷ 0 ∷ 3 ∷ []) }
    ∷ []

pub shown_count : length shown ≡ 3
unfolding shown
shown_count = refl

front_shown : map (λ c. front_row_by (pattern_text c.pattern) c.log c.step) shown ≡ map (λ c. c.numbers) shown
unfolding shown listing_pattern some_clean listing_log shorter_log more_log walk as_lines split printable digits value_from decimal place_of are_numbers rising_below link_count begins links same_fields name_bytes are_names among distinct rules rule_in is_rule_in one_next_in follows_last breaks_turns states_of all_within all_single bead_count members_from table_up front_buffer rule_of_bead accepting_of next_of set_of some_below log_of pattern_of modalities modality_in row prefixes pivots before seek holds? some? all? backward pass
front_shown = refl

pub shown_rows : map (λ c. row_of_texts c.pattern c.log c.step) shown ≡ map (λ c. c.numbers) shown
shown_rows = rows_same shown ∙ front_shown

-- ---- accepted calls

zeros_long : (n : ℕ) → length (zeros n) ≡ n
unfolding zeros
zeros_long n = length-replicate n 0

-- A log's text that gives a whole buffer.
module _ (lt : List ℕ) (fills : length (log_from lt) ≡ log_length) where
  read_log : (m : LogKnown) × (log_text 3 lt ≡ accepted m)
  read_log = go (log_text 3 lt) refl fills
    where
      go : (o : Outcome LogKnown) → log_text 3 lt ≡ o → length (log_by o) ≡ log_length → (m : LogKnown) × (log_text 3 lt ≡ accepted m)
      go (accepted m) e l = (m, e)
      go (faulty number line) e l = absurd (omega arith)

  log_front : take log_length (log_from lt) ≡ log_from lt
  log_front = take_all log_length (log_from lt) (let e = fills in omega arith)

  log_gives : take log_length (log_from lt) ≡ log_buffer read_log.0.steps
  log_gives = log_front ∙ ap log_by read_log.1

  same_log : log_in (log_from lt) ≡ log_of_room (log_from lt)
  same_log = ap (λ (b : List ℕ). log_of_room b) log_front

  sound_log : WellFormed 3 (log_in (log_from lt))
  sound_log =
      subst (WellFormed 3) (sym same_log)
      (log_well_formed 3 (log_from lt) (given_passes 3 (log_from lt) lt read_log.0 read_log.1 (let e = fills in omega arith) log_gives))

-- And a pattern's text of three labels.
module _ (pt : List ℕ) (known : labels_by (pattern_text pt) ≡ 3) where
  read_pattern : (k : PatternKnown) × (pattern_text pt ≡ accepted k) × (k.labels ≡ 3)
  read_pattern = go (pattern_text pt) refl known
    where
      go : (o : Outcome PatternKnown) → pattern_text pt ≡ o → labels_by o ≡ 3 → (k : PatternKnown) × (pattern_text pt ≡ accepted k) × (k.labels ≡ 3)
      go (accepted k) e l = (k, e, l)
      go (faulty number line) e l = absurd (omega arith)

  length_of_pattern : length (pattern_from pt) ≡ pattern_length
  length_of_pattern = ap (λ (o : Outcome PatternKnown). length (pattern_by o)) read_pattern.1 ∙ length_buffer read_pattern.0

  pattern_front : take pattern_length (pattern_from pt) ≡ pattern_from pt
  pattern_front = take_all pattern_length (pattern_from pt) (let e = length_of_pattern in omega arith)

  module _ (lt : List ℕ) (fills : length (log_from lt) ≡ log_length) where
    k : PatternKnown
    k = read_pattern.0

    m : LogKnown
    m = (read_log lt fills).0

    reads_log : log_text k.labels lt ≡ accepted m
    unfolding k m
    reads_log = ap (λ (n : ℕ). log_text n lt) read_pattern.2 ∙ (read_log lt fills).1

    judged : AcceptedTexts pt lt
    unfolding k m
    judged =
        accepted_call (pattern_from pt) (log_from lt) (zeros result_length) (zeros work_length)
        (whole pt lt k m read_pattern.1 reads_log (pattern_from pt) (log_from lt) (zeros result_length) (zeros work_length)
        (let e = length_of_pattern in omega arith) (let e = fills in omega arith)
        (let e = zeros_long result_length in omega arith) (let e = zeros_long work_length in omega arith)
        (pattern_front ∙ ap pattern_by read_pattern.1) (log_gives lt fills))

    row_of : (v : ℕ) → v < (log_in (log_from lt)).size → row_in (result_of pt lt) v ≡ row_of_texts pt lt v
    unfolding k m
    row_of v h =
        whole_row pt lt k m read_pattern.1 reads_log (pattern_from pt) (log_from lt) (zeros result_length) (zeros work_length)
        (let e = length_of_pattern in omega arith) (let e = fills in omega arith)
        (let e = zeros_long result_length in omega arith) (let e = zeros_long work_length in omega arith)
        (pattern_front ∙ ap pattern_by read_pattern.1) (log_gives lt fills) v h
        ∙ sym (ap (λ (o : Outcome PatternKnown). row_by o lt v) read_pattern.1 ∙ ap (λ (o : Outcome LogKnown). row_under k o v) reads_log)

-- ---- the two pairs

-- Alike in the past of step 5, accepted under one pattern, the same row there: what `equal_pasts` asks and what it says.
pub alike_logs : Alike (log_in (log_from listing_log)) (log_in (log_from shorter_log)) 5
alike_logs =
    (alike_agrees (sound_log listing_log long.0) (sound_log shorter_log long.1) 5).0
    (rw (same_log listing_log long.0, same_log shorter_log long.1) (true_yes (alike? (log_of_room (log_from listing_log)) (log_of_room (log_from shorter_log)) 5) alike_computed))

pub alike_judged : AcceptedTexts listing_pattern listing_log × AcceptedTexts listing_pattern shorter_log
alike_judged = (judged listing_pattern three.0 listing_log long.0, judged listing_pattern three.0 shorter_log long.1)

pub alike_rows : row_in (result_of listing_pattern listing_log) 5 ≡ row_in (result_of listing_pattern shorter_log) 5
alike_rows =
    equal_pasts (pattern_from listing_pattern) (log_from listing_log) (zeros result_length) (zeros work_length)
    (log_from shorter_log) (zeros result_length) (zeros work_length) alike_judged.0 alike_judged.1 5 alike_logs

pub alike_row : row_in (result_of listing_pattern shorter_log) 5 ≡ ten (2 ∷ 0 ∷ 1 ∷ 5 ∷ [])
unfolding shown
alike_row = row_of listing_pattern three.0 shorter_log long.1 5 alike_logs.right ∙ ap (λ (l : List (List ℕ)). get_or l 0 []) shown_rows

-- Only adds, accepted under one SOME bead: what `only_adds_some` asks and what it says.
pub adds_logs : OnlyAdds (log_in (log_from listing_log)) (log_in (log_from more_log))
adds_logs =
    (only_adds_agrees (sound_log listing_log long.0) (sound_log more_log long.2)).0
    (rw (same_log listing_log long.0, same_log more_log long.2) (true_yes (only_adds? (log_of_room (log_from listing_log)) (log_of_room (log_from more_log))) adds_computed))

pub adds_judged : AcceptedTexts some_clean listing_log × AcceptedTexts some_clean more_log
adds_judged = (judged some_clean three.1 listing_log long.0, judged some_clean three.1 more_log long.2)

adds_inside : 3 < (log_in (log_from listing_log)).size
adds_inside =
    let e = ap (λ (G : Dag). G.size) (same_log listing_log long.0) ∙ size_is (log_from listing_log) (label_sets (log_from listing_log)) ∙ ap (λ (l : List ℕ). get_or l 0 0) other_sizes in
    omega arith

pub adds_held : T (rule_holds (result_of some_clean listing_log) 3)
unfolding shown
adds_held =
    rw (row_of some_clean three.1 listing_log long.0 3 adds_inside ∙ ap (λ (l : List (List ℕ)). get_or l 1 []) shown_rows) tt

pub adds_keeps : T (rule_holds (result_of some_clean more_log) 3)
adds_keeps =
    let front = pattern_front some_clean three.1 in
    only_adds_some (pattern_from some_clean) (log_from listing_log) (zeros result_length) (zeros work_length)
    (log_from more_log) (zeros result_length) (zeros work_length) adds_judged.0 adds_judged.1
    (ap beads_in front ∙ some_one.0) adds_logs 3 adds_inside (ap (λ (b : List ℕ). at b (rule_at 0)) front ∙ some_one.1) adds_held

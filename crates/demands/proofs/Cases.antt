-- The cases that document 01 marks P, as texts, through the definitions that the contracts cite: one claim over a list of them.
-- Assumes nothing.
use Prim.Native.Nat.{ℕ, zero, suc, ◌+◌, ◌/◌, ◌%◌, ◌<◌, ◌*◌}
use mathlib.Core.Path.{◌≡◌, refl, sym, ap, ◌∙◌, fun_ext}
use mathlib.Core.List.{List, [], ◌∷◌, ◌++◌, map}
use native.Mathlib.Nat.{zero-add}
use native.Mathlib.Omega.{arith}
use lib.ListN.{length, get_or, take, replicate}
use Rattle.rules.specs.Rules.{rules, rule_in, is_rule_in, one_next_in}
use Rattle.sets.specs.Sets.{set_of, some_below, members_from}
use Rattle.lists.specs.Tables.{table}
use Rattle.lists.proofs.Tables.{table_is}
use Rattle.text.specs.Split.{split}
use Rattle.text.specs.Lines.{as_lines, printable}
use Rattle.fields.specs.Fields.{same_bytes}
use Rattle.numbers.specs.Numbers.{digits, value_from, decimal}
use Rattle.text.specs.Walk.{Outcome, accepted, faulty, walk}
use Rattle.pattern_header.specs.Header.{same_fields, name_bytes, are_names, among, distinct}
use Rattle.pattern_order.specs.StateLine.{follows_last, breaks_turns}
use Rattle.pattern_store.specs.Next.{states_of, all_within, all_single}
use Rattle.pattern_store.specs.Format.{Known as PatternKnown, pattern_text}
use Rattle.pattern_store.specs.Buffer.{bead_count, rule_of_bead, accepting_of, next_of, buffer_of as pattern_buffer}
use Rattle.log_line.specs.Header.{place_of}
use Rattle.numbers.specs.Listed.{are_numbers}
use Rattle.log_line.specs.Step.{rising_below, link_count}
use Rattle.log_line.specs.Format.{Known as LogKnown, log_text}
use Rattle.log_store.specs.Buffer.{begins, links, buffer_of as log_buffer}
use Rattle.pattern_buffer.specs.Meaning.{pattern_of, modalities, modality_in}
use Rattle.log_buffer.specs.Meaning.{log_of, log_of_room}
use Rattle.necklace.specs.Compute.{row, prefixes, pivots, before, seek, holds?, some?, all?, backward, pass}
use Rattle.layout.specs.Layout.{most_beads, most_states, sets_a_bead, sets_a_state}

-- The listing's pattern.
--     bead rule state final vac hot vent
--     1 SOME 0 0 3 1 1
--     1 SOME 1 1 0 0 0
--     2 ALL 0 1 1 1 2
--     2 ALL 1 0 2 2 2
unfoldable pub listing_pattern : List ℕ
listing_pattern =
    98 ∷ 101 ∷ 97 ∷ 100 ∷ 32 ∷ 114 ∷ 117 ∷ 108 ∷ 101 ∷ 32 ∷ 115 ∷ 116 ∷ 97 ∷ 116 ∷ 101 ∷ 32 ∷ 102 ∷ 105 ∷ 110 ∷ 97 ∷ 108 ∷ 32 ∷ 118 ∷ 97 ∷ 99 ∷ 32 ∷ 104 ∷ 111 ∷ 116 ∷ 32 ∷ 118 ∷ 101 ∷ 110 ∷ 116 ∷ 10
    ∷ 49 ∷ 32 ∷ 83 ∷ 79 ∷ 77 ∷ 69 ∷ 32 ∷ 48 ∷ 32 ∷ 48 ∷ 32 ∷ 51 ∷ 32 ∷ 49 ∷ 32 ∷ 49 ∷ 10
    ∷ 49 ∷ 32 ∷ 83 ∷ 79 ∷ 77 ∷ 69 ∷ 32 ∷ 49 ∷ 32 ∷ 49 ∷ 32 ∷ 48 ∷ 32 ∷ 48 ∷ 32 ∷ 48 ∷ 10
    ∷ 50 ∷ 32 ∷ 65 ∷ 76 ∷ 76 ∷ 32 ∷ 48 ∷ 32 ∷ 49 ∷ 32 ∷ 49 ∷ 32 ∷ 49 ∷ 32 ∷ 50 ∷ 10
    ∷ 50 ∷ 32 ∷ 65 ∷ 76 ∷ 76 ∷ 32 ∷ 49 ∷ 32 ∷ 48 ∷ 32 ∷ 50 ∷ 32 ∷ 50 ∷ 32 ∷ 50 ∷ 10 ∷ []

-- The listing's second table as one ALL bead: state 0 is final.
--     bead rule state final vac hot vent
--     1 ALL 0 1 1 1 2
--     1 ALL 1 0 2 2 2
unfoldable pub all_clean : List ℕ
all_clean =
    98 ∷ 101 ∷ 97 ∷ 100 ∷ 32 ∷ 114 ∷ 117 ∷ 108 ∷ 101 ∷ 32 ∷ 115 ∷ 116 ∷ 97 ∷ 116 ∷ 101 ∷ 32 ∷ 102 ∷ 105 ∷ 110 ∷ 97 ∷ 108 ∷ 32 ∷ 118 ∷ 97 ∷ 99 ∷ 32 ∷ 104 ∷ 111 ∷ 116 ∷ 32 ∷ 118 ∷ 101 ∷ 110 ∷ 116 ∷ 10
    ∷ 49 ∷ 32 ∷ 65 ∷ 76 ∷ 76 ∷ 32 ∷ 48 ∷ 32 ∷ 49 ∷ 32 ∷ 49 ∷ 32 ∷ 49 ∷ 32 ∷ 50 ∷ 10
    ∷ 49 ∷ 32 ∷ 65 ∷ 76 ∷ 76 ∷ 32 ∷ 49 ∷ 32 ∷ 48 ∷ 32 ∷ 50 ∷ 32 ∷ 50 ∷ 32 ∷ 50 ∷ 10 ∷ []

-- The same table as one SOME bead.
--     bead rule state final vac hot vent
--     1 SOME 0 1 1 1 2
--     1 SOME 1 0 2 2 2
unfoldable pub some_clean : List ℕ
some_clean =
    98 ∷ 101 ∷ 97 ∷ 100 ∷ 32 ∷ 114 ∷ 117 ∷ 108 ∷ 101 ∷ 32 ∷ 115 ∷ 116 ∷ 97 ∷ 116 ∷ 101 ∷ 32 ∷ 102 ∷ 105 ∷ 110 ∷ 97 ∷ 108 ∷ 32 ∷ 118 ∷ 97 ∷ 99 ∷ 32 ∷ 104 ∷ 111 ∷ 116 ∷ 32 ∷ 118 ∷ 101 ∷ 110 ∷ 116 ∷ 10
    ∷ 49 ∷ 32 ∷ 83 ∷ 79 ∷ 77 ∷ 69 ∷ 32 ∷ 48 ∷ 32 ∷ 49 ∷ 32 ∷ 49 ∷ 32 ∷ 49 ∷ 32 ∷ 50 ∷ 10
    ∷ 49 ∷ 32 ∷ 83 ∷ 79 ∷ 77 ∷ 69 ∷ 32 ∷ 49 ∷ 32 ∷ 48 ∷ 32 ∷ 50 ∷ 32 ∷ 50 ∷ 32 ∷ 50 ∷ 10 ∷ []

-- One SOME bead whose state 0 is not final.
--     bead rule state final vac hot vent
--     1 SOME 0 0 1 1 2
--     1 SOME 1 1 2 2 2
unfoldable pub some_vented : List ℕ
some_vented =
    98 ∷ 101 ∷ 97 ∷ 100 ∷ 32 ∷ 114 ∷ 117 ∷ 108 ∷ 101 ∷ 32 ∷ 115 ∷ 116 ∷ 97 ∷ 116 ∷ 101 ∷ 32 ∷ 102 ∷ 105 ∷ 110 ∷ 97 ∷ 108 ∷ 32 ∷ 118 ∷ 97 ∷ 99 ∷ 32 ∷ 104 ∷ 111 ∷ 116 ∷ 32 ∷ 118 ∷ 101 ∷ 110 ∷ 116 ∷ 10
    ∷ 49 ∷ 32 ∷ 83 ∷ 79 ∷ 77 ∷ 69 ∷ 32 ∷ 48 ∷ 32 ∷ 48 ∷ 32 ∷ 49 ∷ 32 ∷ 49 ∷ 32 ∷ 50 ∷ 10
    ∷ 49 ∷ 32 ∷ 83 ∷ 79 ∷ 77 ∷ 69 ∷ 32 ∷ 49 ∷ 32 ∷ 49 ∷ 32 ∷ 50 ∷ 32 ∷ 50 ∷ 32 ∷ 50 ∷ 10 ∷ []

-- The listing's log.
--     vertex board labels preds
--     0 0 0 -
--     1 1 1 0
--     2 2 4 0,1
--     3 1 2 1
--     4 2 2 2,3
--     5 1 0 3
--     6 3 0 1
unfoldable pub listing_log : List ℕ
listing_log =
    118 ∷ 101 ∷ 114 ∷ 116 ∷ 101 ∷ 120 ∷ 32 ∷ 98 ∷ 111 ∷ 97 ∷ 114 ∷ 100 ∷ 32 ∷ 108 ∷ 97 ∷ 98 ∷ 101 ∷ 108 ∷ 115 ∷ 32 ∷ 112 ∷ 114 ∷ 101 ∷ 100 ∷ 115 ∷ 10
    ∷ 48 ∷ 32 ∷ 48 ∷ 32 ∷ 48 ∷ 32 ∷ 45 ∷ 10
    ∷ 49 ∷ 32 ∷ 49 ∷ 32 ∷ 49 ∷ 32 ∷ 48 ∷ 10
    ∷ 50 ∷ 32 ∷ 50 ∷ 32 ∷ 52 ∷ 32 ∷ 48 ∷ 44 ∷ 49 ∷ 10
    ∷ 51 ∷ 32 ∷ 49 ∷ 32 ∷ 50 ∷ 32 ∷ 49 ∷ 10
    ∷ 52 ∷ 32 ∷ 50 ∷ 32 ∷ 50 ∷ 32 ∷ 50 ∷ 44 ∷ 51 ∷ 10
    ∷ 53 ∷ 32 ∷ 49 ∷ 32 ∷ 48 ∷ 32 ∷ 51 ∷ 10
    ∷ 54 ∷ 32 ∷ 51 ∷ 32 ∷ 48 ∷ 32 ∷ 49 ∷ 10 ∷ []

-- Step 0 alone.
--     vertex board labels preds
--     0 0 0 -
unfoldable pub start_alone : List ℕ
start_alone =
    118 ∷ 101 ∷ 114 ∷ 116 ∷ 101 ∷ 120 ∷ 32 ∷ 98 ∷ 111 ∷ 97 ∷ 114 ∷ 100 ∷ 32 ∷ 108 ∷ 97 ∷ 98 ∷ 101 ∷ 108 ∷ 115 ∷ 32 ∷ 112 ∷ 114 ∷ 101 ∷ 100 ∷ 115 ∷ 10
    ∷ 48 ∷ 32 ∷ 48 ∷ 32 ∷ 48 ∷ 32 ∷ 45 ∷ 10 ∷ []

-- An unlabelled step 1.
--     vertex board labels preds
--     0 0 0 -
--     1 0 0 0
unfoldable pub bare_step : List ℕ
bare_step =
    118 ∷ 101 ∷ 114 ∷ 116 ∷ 101 ∷ 120 ∷ 32 ∷ 98 ∷ 111 ∷ 97 ∷ 114 ∷ 100 ∷ 32 ∷ 108 ∷ 97 ∷ 98 ∷ 101 ∷ 108 ∷ 115 ∷ 32 ∷ 112 ∷ 114 ∷ 101 ∷ 100 ∷ 115 ∷ 10
    ∷ 48 ∷ 32 ∷ 48 ∷ 32 ∷ 48 ∷ 32 ∷ 45 ∷ 10
    ∷ 49 ∷ 32 ∷ 48 ∷ 32 ∷ 48 ∷ 32 ∷ 48 ∷ 10 ∷ []

-- Step 1 with labels 5.
--     vertex board labels preds
--     0 0 0 -
--     1 0 5 0
unfoldable pub labels_five : List ℕ
labels_five =
    118 ∷ 101 ∷ 114 ∷ 116 ∷ 101 ∷ 120 ∷ 32 ∷ 98 ∷ 111 ∷ 97 ∷ 114 ∷ 100 ∷ 32 ∷ 108 ∷ 97 ∷ 98 ∷ 101 ∷ 108 ∷ 115 ∷ 32 ∷ 112 ∷ 114 ∷ 101 ∷ 100 ∷ 115 ∷ 10
    ∷ 48 ∷ 32 ∷ 48 ∷ 32 ∷ 48 ∷ 32 ∷ 45 ∷ 10
    ∷ 49 ∷ 32 ∷ 48 ∷ 32 ∷ 53 ∷ 32 ∷ 48 ∷ 10 ∷ []

-- ---- the pattern buffer once more, laid out from the front, which computes in steps as many as its numbers

unfoldable pub table_up : (ℕ → ℕ) → ℕ → ℕ → List ℕ
table_up f i zero = []
table_up f i (suc d) = f i ∷ table_up f (suc i) d

up_length : (f : ℕ → ℕ) (i d : ℕ) → length (table_up f i d) ≡ d
unfolding table_up
up_length f i zero = refl
up_length f i (suc d) = ap suc (up_length f (suc i) d)

up_at : (f : ℕ → ℕ) (i d j : ℕ) → j < d → get_or (table_up f i d) j 0 ≡ f (i + j)
unfolding table_up
up_at f i zero j h = absurd (omega arith)
up_at f i (suc d) zero h = let e : i ≡ i + 0 = omega arith in ap f e
up_at f i (suc d) (suc j) h = let e : suc i + j ≡ i + suc j = omega arith in up_at f (suc i) d j (omega arith) ∙ ap f e

up_is : (f : ℕ → ℕ) (n : ℕ) → table f n ≡ table_up f 0 n
up_is f n = table_is f n (table_up f 0 n) (up_length f 0 n) (λ j h. up_at f 0 n j h ∙ ap f (zero-add j))

unfoldable pub front_buffer : PatternKnown → List ℕ
front_buffer k =
    (k.labels ∷ (bead_count k.rows ∷ []))
    ++ (table_up (λ j. rule_of_bead k.rows (j + 1)) 0 most_beads
    ++ (table_up (λ j. states_of k.rows (j + 1)) 0 most_beads
    ++ (table_up (λ j. set_of most_states (accepting_of k.rows (j + 1))) 0 most_beads
    ++ table_up (λ i. next_of k.rows (i / sets_a_bead + 1) (i / sets_a_state % most_states) (i % sets_a_state)) 0 (sets_a_bead * most_beads))))

front_is : (k : PatternKnown) → pattern_buffer k ≡ front_buffer k
unfolding front_buffer
front_is k = rw (
  up_is (λ j. rule_of_bead k.rows (j + 1)) most_beads,
  up_is (λ j. states_of k.rows (j + 1)) most_beads,
  up_is (λ j. set_of most_states (accepting_of k.rows (j + 1))) most_beads,
  up_is (λ i. next_of k.rows (i / sets_a_bead + 1) (i / sets_a_state % most_states) (i % sets_a_state)) (sets_a_bead * most_beads),
)

-- A pattern's text, a log's text, a step, and its ten numbers.
pub record Case : Type 0 where
  pub pattern : List ℕ
  pub log : List ℕ
  pub step : ℕ
  pub numbers : List ℕ

-- The row that two texts give at a step: none where one of them is refused.
abbrev pub row_under : PatternKnown → Outcome LogKnown → ℕ → List ℕ
row_under k (accepted m) v = row (log_of_room (log_buffer m.steps)) (pattern_of (pattern_buffer k)) v
row_under k (faulty number line) v = []

abbrev pub row_by : Outcome PatternKnown → List ℕ → ℕ → List ℕ
row_by (accepted k) log v = row_under k (log_text k.labels log) v
row_by (faulty number line) log v = []

abbrev pub row_of_texts : List ℕ → List ℕ → ℕ → List ℕ
row_of_texts pattern log v = row_by (pattern_text pattern) log v

abbrev pub ten : List ℕ → List ℕ
ten xs = take 10 (xs ++ replicate 10 0)

abbrev listed : ℕ → List ℕ → Case
listed v xs = record { pattern = listing_pattern; log = listing_log; step = v; numbers = ten xs }

unfoldable pub marked : List Case
marked =
    listed 0 (0 ∷ [])
    ∷ listed 1 (3 ∷ 0 ∷ 1 ∷ 1 ∷ [])
    ∷ listed 2 (0 ∷ [])
    ∷ listed 3 (2 ∷ 0 ∷ 1 ∷ 3 ∷ [])
    ∷ listed 4 (0 ∷ [])
    ∷ listed 5 (2 ∷ 0 ∷ 1 ∷ 5 ∷ [])
    ∷ listed 6 (3 ∷ 0 ∷ 1 ∷ 6 ∷ [])
    ∷ record { pattern = listing_pattern; log = start_alone; step = 0; numbers = ten (0 ∷ []) }
    ∷ record { pattern = all_clean; log = bare_step; step = 1; numbers = ten (1 ∷ 0 ∷ 1 ∷ []) }
    ∷ record { pattern = some_vented; log = bare_step; step = 1; numbers = ten (0 ∷ []) }
    ∷ record { pattern = all_clean; log = labels_five; step = 1; numbers = ten (0 ∷ []) }
    ∷ record { pattern = some_clean; log = labels_five; step = 1; numbers = ten (1 ∷ 0 ∷ 1 ∷ []) }
    -- step 0: it holds where state 0 is final, and its pivots are all 0
    ∷ record { pattern = all_clean; log = bare_step; step = 0; numbers = ten (1 ∷ 0 ∷ 0 ∷ []) }
    ∷ record { pattern = some_vented; log = bare_step; step = 0; numbers = ten (0 ∷ []) }
    ∷ record { pattern = all_clean; log = labels_five; step = 0; numbers = ten (1 ∷ 0 ∷ 0 ∷ []) }
    ∷ record { pattern = some_clean; log = labels_five; step = 0; numbers = ten (1 ∷ 0 ∷ 0 ∷ []) }
    ∷ record { pattern = all_clean; log = start_alone; step = 0; numbers = ten (1 ∷ 0 ∷ 0 ∷ []) }
    ∷ record { pattern = some_clean; log = start_alone; step = 0; numbers = ten (1 ∷ 0 ∷ 0 ∷ []) }
    ∷ []

pub marked_count : length marked ≡ 18
unfolding marked
marked_count = refl

-- ---- the claim

abbrev pub front_row_under : PatternKnown → Outcome LogKnown → ℕ → List ℕ
front_row_under k (accepted m) v = row (log_of_room (log_buffer m.steps)) (pattern_of (front_buffer k)) v
front_row_under k (faulty number line) v = []

abbrev pub front_row_by : Outcome PatternKnown → List ℕ → ℕ → List ℕ
front_row_by (accepted k) log v = front_row_under k (log_text k.labels log) v
front_row_by (faulty number line) log v = []

same_under : (k : PatternKnown) (o : Outcome LogKnown) (v : ℕ) → row_under k o v ≡ front_row_under k o v
same_under k (accepted m) v = ap (λ (b : List ℕ). row (log_of_room (log_buffer m.steps)) (pattern_of b) v) (front_is k)
same_under k (faulty number line) v = refl

same_row : (o : Outcome PatternKnown) (log : List ℕ) (v : ℕ) → row_by o log v ≡ front_row_by o log v
same_row (accepted k) log v = same_under k (log_text k.labels log) v
same_row (faulty number line) log v = refl

pub rows_same : (cs : List Case) → map (λ c. row_of_texts c.pattern c.log c.step) cs ≡ map (λ c. front_row_by (pattern_text c.pattern) c.log c.step) cs
rows_same cs = ap (λ (f : Case → List ℕ). map f cs) (fun_ext (λ c. same_row (pattern_text c.pattern) c.log c.step))

computed : map (λ c. front_row_by (pattern_text c.pattern) c.log c.step) marked ≡ map (λ c. c.numbers) marked
unfolding marked listing_pattern all_clean some_clean some_vented listing_log start_alone bare_step labels_five walk as_lines split printable digits value_from decimal same_fields name_bytes are_names among distinct rules rule_in is_rule_in one_next_in follows_last breaks_turns states_of all_within all_single members_from place_of are_numbers rising_below link_count begins links table_up front_buffer bead_count rule_of_bead accepting_of next_of set_of some_below log_of pattern_of modalities modality_in row prefixes pivots before seek holds? some? all? backward pass
computed = refl

-- Each case marked P has its ten numbers.
pub cases : map (λ c. row_of_texts c.pattern c.log c.step) marked ≡ map (λ c. c.numbers) marked
cases = rows_same marked ∙ computed

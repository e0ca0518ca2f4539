-- Every call of the judge keeps its promise; and 6 and 7 are given just where document 01 says so.
-- Assumes nothing.
use Prim.Native.Nat.{ℕ, zero, suc, ◌+◌, ◌-◌, ◌*◌, ◌≤◌, ◌<◌}
use mathlib.Core.Path.{◌≡◌, refl, sym, ap, ap₂, ◌∙◌, subst}
use mathlib.Core.Logic.{◌↔◌}
use mathlib.Core.Bool.{Bool, true, false, not}
use mathlib.Core.List.{List, [], ◌∷◌, ◌++◌}
use native.Mathlib.Omega.{arith}
use borrow.Author.Tests.{ltb-true, ltb-false}
use lib.Dec.{T, ltb}
use lib.ListN.{length, get_or, take, drop, replicate, length-append, length-drop, length-replicate, get_or-replicate, get_or-append}
use lib.Seq.{take-take, length-take-le, drop_at, get_or-take, get_or-append-add}
use Rattle.sets.proofs.Truth.{true_yes, false_no}
use Rattle.answer.specs.declared.Answer.{Answer}
use Rattle.answer.specs.Answers.{accepted_with, refused_at}
use Rattle.answer.specs.Faults.{Fault, first_fault, answer_or, kept_or}
use Rattle.answer.proofs.FaultLaws.{First, Stopped, first_here, first_later, answer_refused, room_kept}
use Rattle.necklace.proofs.RowMeaning.{row_meaning}
use Rattle.layout.specs.Layout.{most_labels, pattern_length, log_length, result_length, work_length, row_length}
use Rattle.pattern_buffer.specs.Meaning.{labels_in}
use Rattle.pattern_buffer.specs.Valid.{is_pattern}
use Rattle.pattern_texts.specs.Given.{GivenPattern}
use Rattle.pattern_texts.proofs.PatternBuffers.{pattern_buffers}
use Rattle.pattern_buffer.proofs.Places.{passes_out}
use Rattle.log_buffer.specs.Valid.{is_log}
use Rattle.log_buffer.specs.Meaning.{steps_in, label_sets}
use Rattle.log_texts.specs.Given.{GivenLog}
use Rattle.log_texts.proofs.LogBuffers.{log_buffers}
use Rattle.log_buffer.proofs.Sound.{sound_iff}
use Rattle.log_buffer.proofs.Meaning.{size_is}
use Rattle.judging.specs.Judge.{pattern_in, log_in, judge_faults, judge_answer, accepts, result_after, work_after}
use Rattle.results.specs.Result.{whole_up_to, rows_up_to, rows_of, zeros}
use Rattle.judging.proofs.Calls.{Accepted, accepted_call, answer_accepted, result_accepted, work_accepted}
use Rattle.results.proofs.RowPlaces.{rows_length}
use Rattle.demands.specs.Promise.{Applies, log_short, pattern_short, result_short, work_short, no_pattern, no_log, FirstEntry, Judged, Promise, refused, accepted}
use Rattle.demands.proofs.Demands.{demand_two, demand_two_count}

-- ---- what the tests of the two buffers mean

module _ (pattern : List ℕ) (long : pattern_length ≤ length pattern) where
  front : length (take pattern_length pattern) ≡ pattern_length
  front = length-take-le pattern_length pattern long

  again : take pattern_length (take pattern_length pattern) ≡ take pattern_length pattern
  again = take-take pattern_length pattern_length pattern (omega arith)

  is_given : T (is_pattern (take pattern_length pattern)) → GivenPattern pattern
  is_given t =
      let g = (pattern_buffers (take pattern_length pattern)).0 t in
      record { long = long; text = g.text; known = g.known; reads = g.reads; gives = sym again ∙ g.gives }

  given_is : GivenPattern pattern → T (is_pattern (take pattern_length pattern))
  given_is g =
      (pattern_buffers (take pattern_length pattern)).1
      (record { long = (let e = front in omega arith); text = g.text; known = g.known; reads = g.reads; gives = again ∙ g.gives })

  same_labels : labels_in (take pattern_length pattern) ≡ labels_in pattern
  same_labels = get_or-take pattern_length pattern 0 0 (omega arith)

  few_labels : T (is_pattern (take pattern_length pattern)) → labels_in (take pattern_length pattern) ≤ most_labels
  few_labels t = (passes_out (take pattern_length pattern) t).labels_most

  module _ (log : List ℕ) (log_long : log_length ≤ length log) (t : T (is_pattern (take pattern_length pattern))) where
    log_front : length (take log_length log) ≡ log_length
    log_front = length-take-le log_length log log_long

    log_again : take log_length (take log_length log) ≡ take log_length log
    log_again = take-take log_length log_length log (omega arith)

    log_is_given : T (is_log (labels_in (take pattern_length pattern)) (take log_length log)) → GivenLog (labels_in pattern) log
    log_is_given u =
        let g = (log_buffers (labels_in (take pattern_length pattern)) (take log_length log) (few_labels t)).0 u in
        subst (λ (c : ℕ). GivenLog c log) same_labels
        (record { long = log_long; text = g.text; known = g.known; reads = g.reads; gives = sym log_again ∙ g.gives })

    log_given_is : GivenLog (labels_in pattern) log → T (is_log (labels_in (take pattern_length pattern)) (take log_length log))
    log_given_is h =
        let g = subst (λ (c : ℕ). GivenLog c log) (sym same_labels) h in
        (log_buffers (labels_in (take pattern_length pattern)) (take log_length log) (few_labels t)).1
        (record { long = (let e = log_front in omega arith); text = g.text; known = g.known; reads = g.reads; gives = log_again ∙ g.gives })

module _ (pattern log result work : List ℕ) where
  abbrev faults : List Fault
  faults = judge_faults pattern log result work

  -- ---- refused

  -- No entry below n applies, given what each would deny.
  none_below : (n : ℕ) → (1 < n → log_length ≤ length log) → (2 < n → pattern_length ≤ length pattern) → (3 < n → result_length ≤ length result)
      → (4 < n → work_length ≤ length work) → (6 < n → GivenPattern pattern) → (7 < n → GivenLog (labels_in pattern) log)
      → (m : ℕ) → m < n → Applies pattern log result work m → ⊥
  none_below n a b c d e f m l (log_short h) = let k = a l in absurd (omega arith)
  none_below n a b c d e f m l (pattern_short h) = let k = b l in absurd (omega arith)
  none_below n a b c d e f m l (result_short h) = let k = c l in absurd (omega arith)
  none_below n a b c d e f m l (work_short h) = let k = d l in absurd (omega arith)
  none_below n a b c d e f m l (no_pattern h) = h (e l)
  none_below n a b c d e f m l (no_log h) = h (f l)

  refuse : (n : ℕ) → First faults (refused_at n 0) → Applies pattern log result work n → ((m : ℕ) → m < n → Applies pattern log result work m → ⊥)
      → Promise pattern log result work (judge_answer pattern log result work) (result_after pattern log result work) (work_after pattern log result work)
  refuse n f a s =
      let stopped : Stopped faults = record { answer = refused_at n 0; first = f } in
      refused n (record { applies = a; first = s })
      (sym (answer_refused faults (refused_at n 0) (refused_at n 0) (accepted_with (whole_up_to (log_in log) (pattern_in pattern) (log_in log).size)) refl f))
      (sym (room_kept faults result (rows_of (log_in log) (pattern_in pattern) ++ drop result_length result) stopped))
      (sym (room_kept faults work (zeros work_length ++ drop work_length work) stopped))

  -- ---- accepted

  module _ (a : Accepted pattern log result work) where
    t : T (accepts pattern log result work)
    t = accepted_call pattern log result work a

    few : row_length * (log_in log).size ≤ result_length
    few =
        let s = ((sound_iff (labels_in (take pattern_length pattern)) (take log_length log)).0 a.log_passes).few_steps in
        let e = size_is (take log_length log) (label_sets (take log_length log)) in
        omega arith

    rows_long : length (rows_of (log_in log) (pattern_in pattern)) ≡ result_length
    rows_long =
        length-append (rows_up_to (log_in log) (pattern_in pattern) (log_in log).size) (replicate (result_length - row_length * (log_in log).size) 0)
        ∙ ap₂ (λ (x y : ℕ). x + y) (rows_length (log_in log) (pattern_in pattern) (log_in log).size) (length-replicate {A = ℕ} (result_length - row_length * (log_in log).size) 0)
        ∙ (let h = few in omega arith)

    result_is : result_after pattern log result work ≡ rows_of (log_in log) (pattern_in pattern) ++ drop result_length result
    result_is = result_accepted pattern log result work t

    work_is : work_after pattern log result work ≡ zeros work_length ++ drop work_length work
    work_is = work_accepted pattern log result work t

    zeros_long : length (zeros work_length) ≡ work_length
    unfolding zeros
    zeros_long = length-replicate {A = ℕ} work_length 0

    unused : (i : ℕ) → row_length * (log_in log).size ≤ i → i < result_length → get_or (result_after pattern log result work) i 0 ≡ 0
    unused i l h =
        let r = rows_up_to (log_in log) (pattern_in pattern) (log_in log).size in
        let z : length r ≡ row_length * (log_in log).size = rows_length (log_in log) (pattern_in pattern) (log_in log).size in
        let k : length r + (i - row_length * (log_in log).size) ≡ i = omega arith in
        ap (λ (x : List ℕ). get_or x i 0) result_is
        ∙ get_or-append (rows_of (log_in log) (pattern_in pattern)) (drop result_length result) 0 i (let e = rows_long in omega arith)
        ∙ ap (λ (j : ℕ). get_or (rows_of (log_in log) (pattern_in pattern)) j 0) (sym k)
        ∙ get_or-append-add r (replicate (result_length - row_length * (log_in log).size) 0) (i - row_length * (log_in log).size) 0
        ∙ get_or-replicate (result_length - row_length * (log_in log).size) (i - row_length * (log_in log).size) 0 0 (omega arith)

    cleared : (i : ℕ) → i < work_length → get_or (work_after pattern log result work) i 0 ≡ 0
    unfolding zeros
    cleared i h =
        ap (λ (x : List ℕ). get_or x i 0) work_is
        ∙ get_or-append (zeros work_length) (drop work_length work) 0 i (let e = zeros_long in omega arith)
        ∙ get_or-replicate work_length i 0 0 h

    -- Room in front and the rest as it was: the length stays.
    kept_length : (new old whole : List ℕ) (m : ℕ) → length new ≡ m → m ≤ length old → whole ≡ new ++ drop m old → length whole ≡ length old
    kept_length new old whole m e h w =
        ap length w ∙ length-append new (drop m old) ∙ ap₂ (λ (x y : ℕ). x + y) e (length-drop m old) ∙ omega arith

    kept_rest : (new old whole : List ℕ) (m : ℕ) → length new ≡ m → whole ≡ new ++ drop m old → drop m whole ≡ drop m old
    kept_rest new old whole m e w = ap (drop m) w ∙ drop_at new (drop m old) m e

    judged : Judged pattern log result work (judge_answer pattern log result work) (result_after pattern log result work) (work_after pattern log result work)
    judged = record {
      counts = answer_accepted pattern log result work a
          ∙ ap accepted_with (sym (ap (λ (x : Answer). x.count) (answer_accepted pattern log result work a)) ∙ demand_two_count pattern log result work t);
      rows = demand_two pattern log result work t;
      unused = unused;
      length_of_result = kept_length (rows_of (log_in log) (pattern_in pattern)) result _ result_length rows_long a.result_long result_is;
      result_rest = kept_rest (rows_of (log_in log) (pattern_in pattern)) result _ result_length rows_long result_is;
      cleared = cleared;
      length_of_work = kept_length (zeros work_length) work _ work_length zeros_long a.work_long work_is;
      work_rest = kept_rest (zeros work_length) work _ work_length zeros_long work_is;
    }

    given : GivenPattern pattern
    given = is_given pattern a.pattern_long a.pattern_passes

    given_log : GivenLog (labels_in pattern) log
    given_log = log_is_given pattern a.pattern_long log a.log_long a.pattern_passes a.log_passes

    entry_low : (m : ℕ) → Applies pattern log result work m → m < 8
    entry_low m (log_short h) = omega arith
    entry_low m (pattern_short h) = omega arith
    entry_low m (result_short h) = omega arith
    entry_low m (work_short h) = omega arith
    entry_low m (no_pattern h) = omega arith
    entry_low m (no_log h) = omega arith

    accept : Promise pattern log result work (judge_answer pattern log result work) (result_after pattern log result work) (work_after pattern log result work)
    accept =
        accepted
        (λ m x. none_below 8 (λ l. a.log_long) (λ l. a.pattern_long) (λ l. a.result_long) (λ l. a.work_long) (λ l. given) (λ l. given_log) m (entry_low m x) x)
        judged

  -- ---- one of the two, by the tests in their order

  never : {A : Type 0} → (n : ℕ) → n < n → A
  never n h = absurd (omega arith)

  pub judge_promise : Promise pattern log result work (judge_answer pattern log result work) (result_after pattern log result work) (work_after pattern log result work)
  judge_promise =
      go (ltb (length log) log_length) refl (ltb (length pattern) pattern_length) refl (ltb (length result) result_length) refl
      (ltb (length work) work_length) refl (is_pattern (take pattern_length pattern)) refl (is_log (labels_in (take pattern_length pattern)) (take log_length log)) refl
    where
      go : (a : Bool) → ltb (length log) log_length ≡ a → (b : Bool) → ltb (length pattern) pattern_length ≡ b → (c : Bool) → ltb (length result) result_length ≡ c
          → (d : Bool) → ltb (length work) work_length ≡ d → (e : Bool) → is_pattern (take pattern_length pattern) ≡ e
          → (f : Bool) → is_log (labels_in (take pattern_length pattern)) (take log_length log) ≡ f
          → Promise pattern log result work (judge_answer pattern log result work) (result_after pattern log result work) (work_after pattern log result work)
      go true ea b eb c ec d ed e ee f ef =
          refuse 1 (first_here _ _ _ ea) (log_short (ltb-true (length log) log_length ea))
          (none_below 1 (λ l. absurd (omega arith)) (λ l. absurd (omega arith)) (λ l. absurd (omega arith)) (λ l. absurd (omega arith)) (λ l. absurd (omega arith)) (λ l. absurd (omega arith)))
      go false ea true eb c ec d ed e ee f ef =
          let long = ltb-false (length log) log_length ea in
          refuse 2 (first_later _ _ _ _ ea (first_here _ _ _ eb)) (pattern_short (ltb-true (length pattern) pattern_length eb))
          (none_below 2 (λ l. long) (λ l. absurd (omega arith)) (λ l. absurd (omega arith)) (λ l. absurd (omega arith)) (λ l. absurd (omega arith)) (λ l. absurd (omega arith)))
      go false ea false eb true ec d ed e ee f ef =
          let long = ltb-false (length log) log_length ea in
          let pattern_long = ltb-false (length pattern) pattern_length eb in
          refuse 3 (first_later _ _ _ _ ea (first_later _ _ _ _ eb (first_here _ _ _ ec))) (result_short (ltb-true (length result) result_length ec))
          (none_below 3 (λ l. long) (λ l. pattern_long) (λ l. absurd (omega arith)) (λ l. absurd (omega arith)) (λ l. absurd (omega arith)) (λ l. absurd (omega arith)))
      go false ea false eb false ec true ed e ee f ef =
          let long = ltb-false (length log) log_length ea in
          let pattern_long = ltb-false (length pattern) pattern_length eb in
          let result_long = ltb-false (length result) result_length ec in
          refuse 4 (first_later _ _ _ _ ea (first_later _ _ _ _ eb (first_later _ _ _ _ ec (first_here _ _ _ ed)))) (work_short (ltb-true (length work) work_length ed))
          (none_below 4 (λ l. long) (λ l. pattern_long) (λ l. result_long) (λ l. absurd (omega arith)) (λ l. absurd (omega arith)) (λ l. absurd (omega arith)))
      go false ea false eb false ec false ed false ee f ef =
          let long = ltb-false (length log) log_length ea in
          let pattern_long = ltb-false (length pattern) pattern_length eb in
          let result_long = ltb-false (length result) result_length ec in
          let work_long = ltb-false (length work) work_length ed in
          refuse 6 (first_later _ _ _ _ ea (first_later _ _ _ _ eb (first_later _ _ _ _ ec (first_later _ _ _ _ ed (first_here _ _ _ (ap not ee))))))
          (no_pattern (λ g. false_no (is_pattern (take pattern_length pattern)) ee (given_is pattern pattern_long g)))
          (none_below 6 (λ l. long) (λ l. pattern_long) (λ l. result_long) (λ l. work_long) (λ l. absurd (omega arith)) (λ l. absurd (omega arith)))
      go false ea false eb false ec false ed true ee false ef =
          let long = ltb-false (length log) log_length ea in
          let pattern_long = ltb-false (length pattern) pattern_length eb in
          let result_long = ltb-false (length result) result_length ec in
          let work_long = ltb-false (length work) work_length ed in
          let t = true_yes (is_pattern (take pattern_length pattern)) ee in
          refuse 7 (first_later _ _ _ _ ea (first_later _ _ _ _ eb (first_later _ _ _ _ ec (first_later _ _ _ _ ed (first_later _ _ _ _ (ap not ee) (first_here _ _ _ (ap not ef)))))))
          (no_log (λ g. false_no (is_log (labels_in (take pattern_length pattern)) (take log_length log)) ef (log_given_is pattern pattern_long log long t g)))
          (none_below 7 (λ l. long) (λ l. pattern_long) (λ l. result_long) (λ l. work_long) (λ l. is_given pattern pattern_long t) (λ l. absurd (omega arith)))
      go false ea false eb false ec false ed true ee true ef =
          accept (record {
            log_long = ltb-false (length log) log_length ea;
            pattern_long = ltb-false (length pattern) pattern_length eb;
            result_long = ltb-false (length result) result_length ec;
            work_long = ltb-false (length work) work_length ed;
            pattern_passes = true_yes (is_pattern (take pattern_length pattern)) ee;
            log_passes = true_yes (is_log (labels_in (take pattern_length pattern)) (take log_length log)) ef;
          })

  -- ---- 6 and 7, given the lengths

  module _ (log_long : log_length ≤ length log) (pattern_long : pattern_length ≤ length pattern) (result_long : result_length ≤ length result)
      (work_long : work_length ≤ length work) where
    number_of : (m n : ℕ) → refused_at m 0 ≡ refused_at n 0 → m ≡ n
    number_of m n e = ap (λ (x : Answer). x.number) e

    six_out : (n : ℕ) → Applies pattern log result work n → n ≡ 6 → GivenPattern pattern → ⊥
    six_out m (log_short h) e = absurd (omega arith)
    six_out m (pattern_short h) e = absurd (omega arith)
    six_out m (result_short h) e = absurd (omega arith)
    six_out m (work_short h) e = absurd (omega arith)
    six_out m (no_pattern h) e = h
    six_out m (no_log h) e = absurd (omega arith)

    seven_out : (n : ℕ) → Applies pattern log result work n → n ≡ 7 → GivenLog (labels_in pattern) log → ⊥
    seven_out m (log_short h) e = absurd (omega arith)
    seven_out m (pattern_short h) e = absurd (omega arith)
    seven_out m (result_short h) e = absurd (omega arith)
    seven_out m (work_short h) e = absurd (omega arith)
    seven_out m (no_pattern h) e = absurd (omega arith)
    seven_out m (no_log h) e = h

    six_in : (n : ℕ) → Applies pattern log result work n → ((m : ℕ) → m < n → Applies pattern log result work m → ⊥) → (GivenPattern pattern → ⊥) → n ≡ 6
    six_in n (log_short h) f g = absurd (omega arith)
    six_in n (pattern_short h) f g = absurd (omega arith)
    six_in n (result_short h) f g = absurd (omega arith)
    six_in n (work_short h) f g = absurd (omega arith)
    six_in n (no_pattern h) f g = refl
    six_in n (no_log h) f g = absurd (f 6 (omega arith) (no_pattern g))

    seven_in : (n : ℕ) → Applies pattern log result work n → GivenPattern pattern → n ≡ 7
    seven_in n (log_short h) g = absurd (omega arith)
    seven_in n (pattern_short h) g = absurd (omega arith)
    seven_in n (result_short h) g = absurd (omega arith)
    seven_in n (work_short h) g = absurd (omega arith)
    seven_in n (no_pattern h) g = absurd (h g)
    seven_in n (no_log h) g = refl

    not_refused : (n c : ℕ) (a : Answer) → a ≡ accepted_with c → a ≡ refused_at n 0 → n ≡ 0
    not_refused n c a e f = ap (λ (x : Answer). x.number) (sym f ∙ e)

    -- 6 is given just where the pattern room is not what some accepted text gives.
    pub judge_six : judge_answer pattern log result work ≡ refused_at 6 0 ↔ (GivenPattern pattern → ⊥)
    judge_six = (out judge_promise, into judge_promise)
      where
        out : Promise pattern log result work (judge_answer pattern log result work) (result_after pattern log result work) (work_after pattern log result work)
            → judge_answer pattern log result work ≡ refused_at 6 0 → GivenPattern pattern → ⊥
        out (refused n f e r w) h = six_out n f.applies (number_of n 6 (sym e ∙ h))
        out (accepted f j) h = let z = not_refused 6 _ _ j.counts h in absurd (omega arith)

        into : Promise pattern log result work (judge_answer pattern log result work) (result_after pattern log result work) (work_after pattern log result work)
            → (GivenPattern pattern → ⊥) → judge_answer pattern log result work ≡ refused_at 6 0
        into (refused n f e r w) g = e ∙ ap (λ (k : ℕ). refused_at k 0) (six_in n f.applies f.first g)
        into (accepted f j) g = absurd (f 6 (no_pattern g))

    -- 7 is given just where it is, and the log room is not what some accepted text gives under its label count.
    pub judge_seven : judge_answer pattern log result work ≡ refused_at 7 0 ↔ (GivenPattern pattern × (GivenLog (labels_in pattern) log → ⊥))
    judge_seven = (out judge_promise, into judge_promise)
      where
        not_six : ((GivenPattern pattern → ⊥) → ⊥) → GivenPattern pattern
        not_six f = go (is_pattern (take pattern_length pattern)) refl
          where
            go : (b : Bool) → is_pattern (take pattern_length pattern) ≡ b → GivenPattern pattern
            go true e = is_given pattern pattern_long (true_yes (is_pattern (take pattern_length pattern)) e)
            go false e = absurd (f (λ g. false_no (is_pattern (take pattern_length pattern)) e (given_is pattern pattern_long g)))

        out : Promise pattern log result work (judge_answer pattern log result work) (result_after pattern log result work) (work_after pattern log result work)
            → judge_answer pattern log result work ≡ refused_at 7 0 → GivenPattern pattern × (GivenLog (labels_in pattern) log → ⊥)
        out (refused n f e r w) h =
            let z = number_of n 7 (sym e ∙ h) in
            (not_six (λ g. f.first 6 (omega arith) (no_pattern g)), seven_out n f.applies z)
        out (accepted f j) h = let z = not_refused 7 _ _ j.counts h in absurd (omega arith)

        into : Promise pattern log result work (judge_answer pattern log result work) (result_after pattern log result work) (work_after pattern log result work)
            → GivenPattern pattern × (GivenLog (labels_in pattern) log → ⊥) → judge_answer pattern log result work ≡ refused_at 7 0
        into (refused n f e r w) g = e ∙ ap (λ (k : ℕ). refused_at k 0) (seven_in n f.applies g.0)
        into (accepted f j) g = absurd (f 7 (no_log g.1))

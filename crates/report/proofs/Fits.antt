-- How long the program's output can be: the header, and a line a step, each with the step, the set of prefixes and at most nine pivots.
-- Assumes nothing.
use Prim.Native.Nat.{ℕ, zero, suc, ◌-◌, ◌*◌, ◌^◌, ◌≤◌, ◌<◌}
use mathlib.Core.Path.{◌≡◌, refl, sym, subst}
use mathlib.Core.Bool.{Bool, true, false, cond}
use mathlib.Core.List.{List, [], ◌∷◌, ◌++◌, map}
use native.Mathlib.Omega.{arith}
use lib.Dec.{T}
use lib.Pow.{pow_mono}
use lib.ListN.{length, get_or, take, drop, replicate, length-append, length-take, length-drop}
use lib.Seq.{get_or-take}
use Rattle.answer.specs.declared.Answer.{Answer}
use Rattle.sets.specs.Sets.{member}
use Rattle.text.specs.Split.{joined}
use Rattle.numbers.specs.Numbers.{spell}
use Rattle.numbers.proofs.SpelledNumbers.{length_spell, Under}
use Rattle.numbers.proofs.ListedLaws.{length_listed}
use Rattle.necklace.specs.Dag.{Dag}
use Rattle.necklace.specs.Necklace.{Pattern}
use Rattle.necklace.specs.Compute.{row, prefixes, pivots, before, holds?}
use Rattle.necklace.proofs.Prefixes.{before_holds, before_le}
use Rattle.necklace.proofs.RowMeaning.{prefixes_below, row_first, length-row}
use Rattle.layout.specs.Layout.{log_length, pattern_length, most_beads, most_steps, row_length}
use Rattle.log_buffer.specs.Meaning.{log_of, steps_in}
use Rattle.log_buffer.proofs.Sound.{sound_iff}
use Rattle.pattern_buffer.specs.Meaning.{labels_in}
use Rattle.pattern_buffer.proofs.Meaning.{pattern_well_formed}
use Rattle.judging.specs.Judge.{pattern_in, log_in, accepts, result_after}
use Rattle.results.specs.Result.{row_in}
use Rattle.judging.proofs.Calls.{Accepted, passed_all, row_in_result}
use Rattle.report_lines.specs.Lines.{header_text, pivots_word, row_text, refusal_fields, refusal_text}
use Rattle.report.specs.Report.{row_lines}

-- Each number has at most four digits.
abbrev Small : List ℕ → Type 0
Small ns = Under (10 ^ 4) ns

small_append : (xs ys : List ℕ) → Small xs → Small ys → Small (xs ++ ys)
small_append [] ys a b = b
small_append (x ∷ xs) ys a b = (a.0, small_append xs ys a.1 b)

small_take : (n : ℕ) (xs : List ℕ) → Small xs → Small (take n xs)
small_take zero xs a = tt
small_take (suc n) [] a = tt
small_take (suc n) (x ∷ xs) a = (a.0, small_take n xs a.1)

small_zeros : (n : ℕ) → Small (replicate n 0)
small_zeros zero = tt
small_zeros (suc n) = (omega arith, small_zeros n)

-- ---- the pivots of a step are no larger than the step

small_pivots : (G : Dag) (P : Pattern) (k v : ℕ) → v < 10 ^ 4 → T (holds? G P k v) → Small (pivots G P k v)
unfolding pivots
small_pivots G P zero v h t = (h, tt)
small_pivots G P (suc k) v h t =
    let l = before_le G P k v t in
    small_append (pivots G P k (before G P k v)) (v ∷ []) (small_pivots G P k (before G P k v) (omega arith) (before_holds G P k v t)) (h, tt)

small_row : (G : Dag) (P : Pattern) (v : ℕ) → v < 10 ^ 4 → Small (drop 1 (row G P v))
unfolding row
small_row G P v h = small_take 9 (cond (holds? G P P.count v) (pivots G P P.count v) [] ++ replicate 9 0)
    (small_append (cond (holds? G P P.count v) (pivots G P P.count v) []) (replicate 9 0) (go (holds? G P P.count v) refl) (small_zeros 9))
  where
    go : (b : Bool) → holds? G P P.count v ≡ b → Small (cond b (pivots G P P.count v) [])
    go true e = small_pivots G P P.count v h (rw e tt)
    go false e = tt

-- ---- a line

word_most : (beads : ℕ) (r : List ℕ) → length r ≡ row_length → Small (drop 1 r) → length (pivots_word beads r) ≤ 44
word_most beads r e a = go (member (beads - 1) (get_or r 0 0))
  where
    ps : List ℕ
    ps = take (suc beads) (drop 1 r)

    few : length ps ≤ 9
    few = let e₁ = length-take (suc beads) (drop 1 r) in let e₂ = length-drop 1 r in omega arith

    go : (b : Bool) → length (cond b (joined 44 (map spell ps)) (45 ∷ [])) ≤ 44
    go true = omega (arith, length_listed 3 ps (small_take (suc beads) (drop 1 r) a), few)
    go false = omega arith

line_most : (beads step : ℕ) (r : List ℕ) → step < 10 ^ 4 → get_or r 0 0 < 10 ^ 3 → length r ≡ row_length → Small (drop 1 r)
    → length (row_text beads step r) ≤ 54
unfolding joined
line_most beads step r h g e a =
    let w : List ℕ = pivots_word beads r in
    let x = length-append (spell step ++ (32 ∷ (spell (get_or r 0 0) ++ (32 ∷ w)))) (10 ∷ []) in
    let y = length-append (spell step) (32 ∷ (spell (get_or r 0 0) ++ (32 ∷ w))) in
    let z = length-append (spell (get_or r 0 0)) (32 ∷ w) in
    omega (arith, length_spell 3 step h, length_spell 2 (get_or r 0 0) g, word_most beads r e a)

lines_most : (beads n : ℕ) (result : List ℕ) → ((v : ℕ) → v < n → length (row_text beads v (row_in result v)) ≤ 54)
    → length (row_lines beads n result) ≤ 54 * n
unfolding row_lines
lines_most beads zero result f = omega arith
lines_most beads (suc n) result f =
    let e = length-append (row_lines beads n result) (row_text beads n (row_in result n)) in
    omega (arith, lines_most beads n result (λ v h. f v (omega arith)), f n (omega arith))

-- The line of a refusal.
pub refusal_fits : (a : Answer) → a.number < 65536 → a.line < 65536 → a.byte < 65536 → length (refusal_text a) ≤ 36
unfolding joined
refusal_fits a h g f =
    let x = length-append (joined 32 (refusal_fields a)) (10 ∷ []) in
    let y = length-append (spell a.number) (32 ∷ 108 ∷ 105 ∷ 110 ∷ 101 ∷ 32 ∷ (spell a.line ++ (32 ∷ 98 ∷ 121 ∷ 116 ∷ 101 ∷ 32 ∷ spell a.byte))) in
    let z = length-append (spell a.line) (32 ∷ 98 ∷ 121 ∷ 116 ∷ 101 ∷ 32 ∷ spell a.byte) in
    omega (arith, length_spell 4 a.number (omega arith), length_spell 4 a.line (omega arith), length_spell 4 a.byte (omega arith))

-- What an accepted judging prints.
module _ (pattern log result work : List ℕ) (t : T (accepts pattern log result work)) where
  a : Accepted pattern log result work
  a = passed_all pattern log result work t

  steps_are : (log_in log).size ≡ steps_in log
  unfolding log_of
  steps_are = get_or-take log_length log 0 0 (omega arith)

  pub few_steps : steps_in log ≤ most_steps
  few_steps =
      let s = ((sound_iff (labels_in (take pattern_length pattern)) (take log_length log)).0 a.log_passes).few_steps in
      let e = get_or-take log_length log 0 0 (omega arith) in
      omega arith

  small_set : (v : ℕ) → get_or (row (log_in log) (pattern_in pattern) v) 0 0 < 10 ^ 3
  small_set v =
      let most = (pattern_well_formed (take pattern_length pattern) a.pattern_passes).at_most in
      let below : prefixes (log_in log) (pattern_in pattern) v < 2 ^ (pattern_in pattern).count = prefixes_below (log_in log) (pattern_in pattern) v in
      let e = row_first (log_in log) (pattern_in pattern) v in
      omega (arith, pow_mono {i = (pattern_in pattern).count} {j = most_beads} most)

  pub output_fits : (beads : ℕ) → length (header_text ++ row_lines beads (steps_in log) (result_after pattern log result work)) ≤ 55319
  unfolding joined
  output_fits beads =
      let e = length-append header_text (row_lines beads (steps_in log) (result_after pattern log result work)) in
      let few = few_steps in
      omega (arith, lines_most beads (steps_in log) (result_after pattern log result work) line)
    where
      line : (v : ℕ) → v < steps_in log → length (row_text beads v (row_in (result_after pattern log result work) v)) ≤ 54
      line v h =
          let few = few_steps in
          let k : v < (log_in log).size = subst (λ (n : ℕ). v < n) (sym steps_are) h in
          subst (λ (r : List ℕ). length (row_text beads v r) ≤ 54) (sym (row_in_result pattern log result work t v k))
          (line_most beads v (row (log_in log) (pattern_in pattern) v) (omega arith) (small_set v) (length-row (log_in log) (pattern_in pattern) v)
          (small_row (log_in log) (pattern_in pattern) v (omega arith)))

-- The lines of the steps, one after the other, and the whole text.
-- Assumes nothing.
use Prim.Native.Nat.{ℕ, suc, ◌+◌}
use mathlib.Core.Path.{◌≡◌, refl, sym, ap, ◌∙◌}
use mathlib.Core.List.{List, [], ◌∷◌, ◌++◌, append_assoc, append-nil}
use native.Mathlib.Numerals.{add-one}
use native.Mathlib.Omega.{arith}
use lib.ListN.{length}
use Rattle.text.specs.Split.{line_from}
use Rattle.log_line.specs.Step.{Step}
use Rattle.log_texts.specs.Spelled.{step_in, steps_up_to, fields_of, step_lines}
use Rattle.log_texts.proofs.StepPlaces.{length_up_to}
use Rattle.writing.proofs.PutLaws.{kit}
use Rattle.log_layout.proofs.LineLaws.{long, few_steps, header_is}

-- ---- the lines

-- A line more, behind the others.
lines_snoc : (v : ℕ) (xs : List Step) (x : Step) → step_lines v (xs ++ (x ∷ [])) ≡ step_lines v xs ++ line_from (fields_of (v + length xs) x)
unfolding step_lines
lines_snoc v [] x =
    let e : v ≡ v + 0 = omega arith in append-nil (line_from (fields_of v x)) ∙ ap (λ (w : ℕ). line_from (fields_of w x)) e
lines_snoc v (y ∷ xs) x =
    let e : suc v + length xs ≡ v + suc (length xs) = omega arith in
    ap (λ (t : List ℕ). line_from (fields_of v y) ++ t) (lines_snoc (suc v) xs x ∙ ap (λ (w : ℕ). step_lines (suc v) xs ++ line_from (fields_of w x)) e)
    ∙ sym (append_assoc (line_from (fields_of v y)) (step_lines (suc v) xs) (line_from (fields_of (v + suc (length xs)) x)))

pub no_steps : (log : List ℕ) → step_lines 0 (steps_up_to log 0) ≡ []
unfolding step_lines steps_up_to
no_steps log = refl

pub steps_more : (log : List ℕ) (step : ℕ)
    → step_lines 0 (steps_up_to log (step + 1)) ≡ step_lines 0 (steps_up_to log step) ++ line_from (fields_of step (step_in log step))
unfolding steps_up_to
steps_more log step =
    let e : 0 + length (steps_up_to log step) ≡ step = omega (arith, length_up_to log step) in
    ap (λ (n : ℕ). step_lines 0 (steps_up_to log n)) (add-one step)
    ∙ (lines_snoc 0 (steps_up_to log step) (step_in log step)
    ∙ ap (λ (v : ℕ). step_lines 0 (steps_up_to log step) ++ line_from (fields_of v (step_in log step))) e)

pub ruleset steps_kit = (kit, long, few_steps, no_steps, steps_more)

-- The whole text: the header, and the lines.
pub ruleset text_kit = (kit, header_is)

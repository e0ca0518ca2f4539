-- Tests 6 and 7 before the judging.
-- Assumes nothing.
use Prim.Native.Nat.{ℕ}
use mathlib.Core.Path.{◌≡◌, refl, sym, ap, ◌∙◌}
use mathlib.Core.Bool.{Bool, true}
use mathlib.Core.List.{List}
use lib.ListN.{get_or, replicate}
use Rattle.sets.proofs.Truth.{true_yes}
use Rattle.answer.specs.declared.Answer.{Answer}
use Rattle.answer.specs.Answers.{accepted_with}
use Rattle.answer.proofs.FaultSteps.{fault_steps}
use Rattle.pattern_buffer.specs.Meaning.{labels_in}
use Rattle.pattern_buffer.specs.Valid.{is_pattern}
use Rattle.log_buffer.specs.Meaning.{label_sets}
use Rattle.log_buffer.specs.Valid.{is_log}
use Rattle.prefix_phase.specs.Marked.{Tested}
use Rattle.results.specs.Result.{zeros}

pub both_tested : (pattern log : List ℕ) (b d : Bool) → b ≡ is_pattern pattern → b ≡ true → d ≡ is_log (get_or pattern 0 0) log → d ≡ true
    → Tested pattern log (label_sets log)
both_tested pattern log b d p y q z = record {
  pattern_passes = true_yes (is_pattern pattern) (sym p ∙ y);
  log_passes = true_yes (is_log (labels_in pattern) log) (sym q ∙ z);
  labels_are = refl;
}

pub counted : (r : Answer) (c n : ℕ) → r ≡ accepted_with c → c ≡ n → r ≡ accepted_with n
counted r c n e f = e ∙ ap accepted_with f

pub cleared : (exit : List ℕ) (n : ℕ) → exit ≡ replicate n 0 → exit ≡ zeros n
unfolding zeros
cleared exit n e = e

pub ruleset fit_kit = (fault_steps, both_tested, counted, cleared)

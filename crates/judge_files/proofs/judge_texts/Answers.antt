-- The pattern, then the log. The way on which the log is judged stands first: the edit `missing_log_judged` makes that goal false, and only leaves
-- the answer to the other without its fact.
use Rattle.std.proofs.Common.{refl}
use Rattle.judge_files.specs.Files.{log_refused, log_judged, pattern_read}
use Rattle.judge_files.proofs.judge_texts.Goals as goal

pub returns-clause-run : goal.returns-clause-run
returns-clause-run g c =
    pattern_read _ c.read_pattern_file-pattern_read.ensures (c.if-not-is_accepted.ensures.0 refl)
    (log_judged _ c.read_log_file-log_read.ensures (c.if-not-is_accepted-2.ensures.0 refl) c.judge.ensures.value c.judge.ensures.res_after c.judge.ensures.work_after)

pub returns-then-not-is_accepted-2-clause-run : goal.returns-then-not-is_accepted-2-clause-run
returns-then-not-is_accepted-2-clause-run g c =
    pattern_read _ c.read_pattern_file-pattern_read.ensures (c.if-not-is_accepted.ensures.0 refl)
    (log_refused c.read_log_file-log_read.ensures (λ z. let f = c.if-not-is_accepted-2.ensures.1 z in cc) refl refl)

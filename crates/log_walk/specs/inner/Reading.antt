-- What the lines below the header say.
use Rattle.std.specs.Prelude.{ℕ, List, []}
use Rattle.text.specs.Lines.{lines_of}
use Rattle.text.specs.Walk.{Outcome, walk}
use Rattle.log_line.specs.Header.{Columns}
use Rattle.log_line.specs.Format.{Known, judge_line, conclude}
use Rattle.log_store.specs.inner.Stores.{knowing}

-- The second line of the text is the first of them.
unfoldable pub steps_read : ℕ → Columns → List ℕ → Outcome Known
steps_read count c rest = conclude (walk (judge_line count) (knowing c []) 2 (lines_of rest))

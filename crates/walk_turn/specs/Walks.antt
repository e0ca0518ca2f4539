-- A turn, by what all turns go by.
use Rattle.std.specs.Prelude.{ℕ, List}
use Rattle.walk_turn.specs.declared.Turn.{Turn}
use Rattle.walk_turn.specs.declared.Opened.{Opened}
use Rattle.walk_turn.specs.declared.Walk.{Walk}
use Rattle.walk_turn.specs.Turns.{Due, TurnReady, Begun}

abbrev pub DueIn : Walk → ℕ → Turn → List ℕ → List ℕ → List ℕ → Type 0
DueIn walk n turn seeds found pivots =
    Due walk.case.course.pattern.now walk.case.course.log.numbers.now walk.case.course.log.labels.now n turn seeds found pivots

abbrev pub ReadyIn : Walk → ℕ → Turn → ℕ → List ℕ → List ℕ → List ℕ → Type 0
ReadyIn walk n turn to seeds found pivots =
    TurnReady walk.case.course.pattern.now walk.case.course.log.numbers.now walk.case.course.log.labels.now n turn to seeds found pivots

abbrev pub BegunIn : Walk → ℕ → Turn → Opened → List ℕ → List ℕ → List ℕ → Type 0
BegunIn walk n turn opened seeds found pivots =
    Begun walk.case.course.pattern.now walk.case.course.log.numbers.now walk.case.course.log.labels.now n turn opened seeds found pivots

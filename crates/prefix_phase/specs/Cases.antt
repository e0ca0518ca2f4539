-- What is marked, by what is judged.
use Rattle.std.specs.Prelude.{ℕ, ◌+◌, ◌*◌, List}
use Rattle.pattern_buffer.specs.Meaning.{pattern_of}
use Rattle.log_buffer.specs.Meaning.{steps_in, log_of}
use Rattle.prefix_phase.specs.Marked.{MarkedUpTo, TurnMade, PrefixesMarked}
use Rattle.prefix_phase.specs.declared.Case.{Case}

-- All candidates have been looked at for the beads before the one at place k, and for that one those below `from`.
abbrev pub MarkedBy : Case → ℕ → ℕ → List ℕ → Type 0
MarkedBy case k from prefixes =
    MarkedUpTo (log_of case.course.log.numbers.now case.course.log.labels.now) (pattern_of case.course.pattern.now)
    (steps_in case.course.log.numbers.now) (k * steps_in case.course.log.numbers.now + from) prefixes

-- Candidates from `from` on and below `to` have been looked at for the bead at place k.
abbrev pub MadeBy : Case → ℕ → ℕ → ℕ → List ℕ → List ℕ → Type 0
MadeBy case k from to old new =
    TurnMade case.course.pattern.now case.course.log.numbers.now case.course.log.labels.now (steps_in case.course.log.numbers.now) k from to old new

-- All prefixes are marked.
abbrev pub PrefixesMarkedBy : Case → List ℕ → Type 0
PrefixesMarkedBy case sets =
    PrefixesMarked (log_of case.course.log.numbers.now case.course.log.labels.now) (pattern_of case.course.pattern.now)
    (steps_in case.course.log.numbers.now) sets

-- What is asked of candidates and told of them, by what the passes go by.
use Rattle.std.specs.Prelude.{ℕ, List}
use Rattle.log_buffer.specs.Meaning.{steps_in}
use Rattle.starts.specs.declared.Lanes.{Lanes}
use Rattle.serving.specs.Serving.{Asked, FoundIn, ServedIf}
use Rattle.serving.specs.declared.Course.{Course}

abbrev pub AskedOf : Course → ℕ → ℕ → List ℕ → Type 0
AskedOf course k from prefixes =
    Asked course.pattern.now course.log.numbers.now course.log.labels.now (steps_in course.log.numbers.now) k from prefixes

abbrev pub FoundFrom : Course → ℕ → ℕ → ℕ → List ℕ → Type 0
FoundFrom course k from to found =
    FoundIn course.pattern.now course.log.numbers.now course.log.labels.now (steps_in course.log.numbers.now) k from to found

abbrev pub ServedFrom : Lanes → Course → ℕ → ℕ → ℕ → List ℕ → List ℕ → Type 0
ServedFrom lanes course k from to seeds found =
    ServedIf lanes course.pattern.now course.log.numbers.now course.log.labels.now (steps_in course.log.numbers.now) k from to seeds found

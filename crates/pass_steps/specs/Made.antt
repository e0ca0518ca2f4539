-- What is said of the steps of a pass, by what it is made of.
use Rattle.std.specs.Prelude.{ℕ, List}
use Rattle.log_buffer.specs.Meaning.{steps_in}
use Rattle.log_links.specs.Links.{LastTo}
use Rattle.pass_steps.specs.PassSteps.{Held, FoundTo, Bounded}
use Rattle.pass_steps.specs.declared.Pass.{Pass}

-- The last links are those of the log.
abbrev pub LastBy : Pass → Type 0
LastBy pass = LastTo pass.log.now (steps_in pass.log.now) pass.last.now

-- The work buffer holds the lanes of the steps below x.
abbrev pub HeldBy : Pass → ℕ → List ℕ → Type 0
HeldBy pass x work = Held pass.bead.pattern.now pass.log.now pass.labels.now pass.bead.place pass.seeds.now pass.first pass.until x work

-- For each step below x the lanes that reach it are found.
abbrev pub FoundBy : Pass → ℕ → List ℕ → Type 0
FoundBy pass x found = FoundTo pass.bead.pattern.now pass.log.now pass.labels.now pass.bead.place pass.seeds.now pass.first pass.until x found

-- From the steps below x no link leads past `reach` for a lane that is alive.
abbrev pub BoundedBy : Pass → ℕ → ℕ → Type 0
BoundedBy pass x reach =
    Bounded pass.bead.pattern.now pass.log.now pass.labels.now pass.bead.place pass.hopeful pass.seeds.now pass.first pass.until pass.last.now x reach

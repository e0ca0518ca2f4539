-- A turn of the walk back: its bead, its candidates, its step, and what becomes of the step's place.
use Rattle.std.specs.Prelude.{ℕ, suc, ◌+◌, ◌-◌, ◌*◌, ◌≤◌, ◌<◌, ◌≡◌, true, false, List, get_or, set, Option, Some, None, unwrap_or}
use Rattle.sets.specs.Sets.{overlaps}
use Rattle.necklace.specs.Dag.{Dag}
use Rattle.necklace.specs.Necklace.{Pattern}
use Rattle.layout.specs.Layout.{most_beads, most_lanes, most_steps}
use Rattle.pattern_buffer.specs.Meaning.{pattern_of}
use Rattle.log_buffer.specs.Meaning.{steps_in, log_of}
use Rattle.rows.specs.Rows.{pivot_at}
use Rattle.serving.specs.Serving.{Served}
use Rattle.walk_places.specs.Walked.{sought, Walked}
use Rattle.walk_places.specs.Search.{NextAt, NoneLook}
use Rattle.walk_turn.specs.declared.Turn.{Turn}
use Rattle.walk_turn.specs.declared.Aim.{Aim}
use Rattle.walk_turn.specs.declared.Opened.{Opened}

-- Where the candidates of a turn end, as far as it is known: while they are not found there are none.
abbrev pub known_to : Turn → ℕ
known_to turn = unwrap_or turn.to turn.from

-- A turn, with its candidates below `to`, lies inside the walk.
pub record TurnIn (n : ℕ) (turn : Turn) (to : ℕ) : Type 0 where
  pub some : 1 ≤ turn.left
  pub place : turn.left ≤ most_beads
  pub few : n ≤ most_steps
  pub start : turn.from < n
  pub low : turn.from ≤ turn.step
  pub inside : turn.step < n
  pub up : turn.from ≤ to
  pub most : to ≤ n

-- Between turns. Until its candidates are found a turn is at its first step.
pub record Walking (pattern log labels : List ℕ) (n : ℕ) (turn : Turn) (seeds found pivots : List ℕ) : Type 0 where
  pub beads : turn.left ≤ (pattern_of pattern).count
  pub turn_in : 1 ≤ turn.left → TurnIn n turn (known_to turn)
  pub first : turn.to ≡ None → turn.step ≤ turn.from
  pub more : (to : ℕ) → turn.to ≡ Some to → turn.from < to
  pub served : (to : ℕ) → turn.to ≡ Some to → (v : ℕ) → turn.from ≤ v → v < n → sought (log_of log labels) (pattern_of pattern) n (turn.left - 1) turn.from v ≡ n
      → Served pattern log labels n (turn.left - 1) turn.from to seeds found
  pub walked : Walked (log_of log labels) (pattern_of pattern) n turn.left turn.from (known_to turn) turn.step pivots

-- A turn is due: a bead is left, and n is the step count.
pub record Due (pattern log labels : List ℕ) (n : ℕ) (turn : Turn) (seeds found pivots : List ℕ) : Type 0 where
  pub some : 1 ≤ turn.left
  pub steps_are : n ≡ steps_in log
  pub walking : Walking pattern log labels n turn seeds found pivots

-- A turn is ready: its candidates are known.
pub record TurnReady (pattern log labels : List ℕ) (n : ℕ) (turn : Turn) (to : ℕ) (seeds found pivots : List ℕ) : Type 0 where
  pub turn_in : TurnIn n turn to
  pub beads : turn.left ≤ (pattern_of pattern).count
  pub more : turn.from < to
  pub served : (v : ℕ) → turn.from ≤ v → v < n → sought (log_of log labels) (pattern_of pattern) n (turn.left - 1) turn.from v ≡ n
      → Served pattern log labels n (turn.left - 1) turn.from to seeds found
  pub walked : Walked (log_of log labels) (pattern_of pattern) n turn.left turn.from to turn.step pivots

-- ---- the step that searches, and its search

-- What is aimed at: the next step that has something to look for, and the pivot picked last for it.
pub record AimAt (n : ℕ) (turn : Turn) (found pivots : List ℕ) (aim : Aim) : Type 0 where
  pub next : NextAt turn.left n found pivots turn.step aim.step
  pub pivot : aim.pivot ≡ get_or pivots (pivot_at turn.left aim.step) 0
  pub inside : aim.pivot < most_steps

-- Where no step has something to look for nothing is aimed at.
pub record AimOf (n : ℕ) (turn : Turn) (found pivots : List ℕ) (aim : Option Aim) : Type 0 where
  pub some : (a : Aim) → aim ≡ Some a → AimAt n turn found pivots a
  pub none : aim ≡ None → NoneLook turn.left n found pivots turn.step n

-- A turn is ready, and aim is taken.
pub record Begun (pattern log labels : List ℕ) (n : ℕ) (turn : Turn) (opened : Opened) (seeds found pivots : List ℕ) : Type 0 where
  pub aimed : AimOf n turn found pivots opened.aim
  pub ready : TurnReady pattern log labels n turn opened.to seeds found pivots

-- No candidate from `from` on and below u serves before p.
pub record NoneServe (seeds found : List ℕ) (p from u : ℕ) : Type 0 where
  pub none : (w : ℕ) → from ≤ w → w < u → overlaps most_lanes (get_or seeds w 0) (get_or found p 0) ≡ false

-- The candidate u serves before p, and no smaller one does.
pub record FirstServes (seeds found : List ℕ) (p from to u : ℕ) : Type 0 where
  pub low : from ≤ u
  pub high : u < to
  pub serves : overlaps most_lanes (get_or seeds u 0) (get_or found p 0) ≡ true
  pub before : NoneServe seeds found p from u

-- The smallest candidate from `from` on and below `to` that serves before p, if one does.
pub record Picked (seeds found : List ℕ) (p from to : ℕ) (picked : Option ℕ) : Type 0 where
  pub some : (u : ℕ) → picked ≡ Some u → FirstServes seeds found p from to u
  pub none : picked ≡ None → NoneServe seeds found p from to

-- The candidate that is picked is put down at the place of the step, if one is.
pub record PutDown (turn : Turn) (step : ℕ) (picked : Option ℕ) (old new : List ℕ) : Type 0 where
  pub some : (u : ℕ) → picked ≡ Some u → new ≡ set old (most_steps * (turn.left - 1) + step) u
  pub none : picked ≡ None → new ≡ old

-- ---- from turn to turn

-- A number that grows smaller from turn to turn.
unfoldable pub turns_left : ℕ → Turn → ℕ
turns_left n turn = (turn.left * suc n + (n - turn.from)) * suc n + (n - turn.step)

-- The turn after another with candidates below `to`, when the steps below `after` have been through it.
pub record Next (n : ℕ) (turn : Turn) (to after : ℕ) (new : Turn) : Type 0 where
  pub fewer : turns_left n new < turns_left n turn
  pub beads : new.left ≤ turn.left
  pub turn_in : 1 ≤ new.left → TurnIn n new (known_to new)
  pub first : new.to ≡ None → new.step ≤ new.from
  pub same : (t : ℕ) → new.to ≡ Some t → (t ≡ to) × (new.left ≡ turn.left) × (new.from ≡ turn.from)
  pub walked : (G : Dag) (P : Pattern) (pivots : List ℕ) → turn.left ≤ P.count → Walked G P n turn.left turn.from to after pivots
      → Walked G P n new.left new.from (known_to new) new.step pivots

-- A step that is aimed at has been through the turn: the smallest candidate that serves is put down for it, and the turn after it follows.
pub record SettledAt (n : ℕ) (turn : Turn) (to : ℕ) (aim : Aim) (seeds found old new : List ℕ) (next : Turn) : Type 0 where
  pub picked : Option ℕ
  pub pick : Picked seeds found aim.pivot turn.from to picked
  pub down : PutDown turn aim.step picked old new
  pub after : Next n turn to (aim.step + 1) next

-- A turn has been made. Where nothing was aimed at nothing is put down, and no step is left to look at.
pub record Settled (n : ℕ) (turn : Turn) (opened : Opened) (seeds found old new : List ℕ) (next : Turn) : Type 0 where
  pub fewer : turns_left n next < turns_left n turn
  pub some : (a : Aim) → opened.aim ≡ Some a → SettledAt n turn opened.to a seeds found old new next
  pub none : opened.aim ≡ None → (new ≡ old) × Next n turn opened.to n next

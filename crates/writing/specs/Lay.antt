-- A text laid at the front of a room that is long enough for it. Assumes nothing.
use Rattle.std.specs.Prelude.{ℕ, ◌≤◌, ◌<◌, ◌≡◌, List, ◌++◌, length, drop, Option, Some, None}
use Rattle.std.specs.Borrow.{MutBor}
use Rattle.writing.specs.Put.{Put}

-- Each call puts the text at the front of the room that it is lent, as far as there are places, and answers how long the text is.
abbrev pub Lays : (MutBor (List ℕ) → ℕ → MutBor (List ℕ) → Type 0) → List ℕ → Type 0
Lays answers text = (room left : MutBor (List ℕ)) (n : ℕ) → answers room n left → Put text 0 room.now n left.now

-- The text stands at the front of the room, which is else as it was, and its length is the answer; or the room is too short, and is as it was.
pub record Laid (text old : List ℕ) (r : Option ℕ) (new : List ℕ) : Type 0 where
  pub some : (n : ℕ) → r ≡ Some n → (length text ≤ length old) × (n ≡ length text) × (new ≡ text ++ drop (length text) old)
  pub none : r ≡ None → (length old < length text) × (new ≡ old)

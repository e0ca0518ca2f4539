-- What the place where reading a number stopped says (document 02, ask 2: "the number reader must say where it stopped").
use Rattle.std.specs.Prelude.{ℕ, suc, ◌<◌, ◌≡◌, List, [], ◌++◌, length, take}
use Rattle.std.specs.Prelude.{Option, Some, None}
use Rattle.numbers.specs.Numbers.{decimal}

-- No number up to the limit begins with these bytes.
abbrev pub NoneFollows : ℕ → List ℕ → Type 0
NoneFollows most front = (rest : List ℕ) → decimal most (front ++ rest) ≡ None

-- One does.
pub record SomeFollows (most : ℕ) (front : List ℕ) : Type 0 where
  pub rest : List ℕ
  pub value : ℕ
  pub reads : decimal most (front ++ rest) ≡ Some value

-- Of a field: the number that was read, if one was, and where reading stopped.
pub data StopSays (most : ℕ) (f : List ℕ) : Option ℕ → ℕ → Type 0 where
  -- a number: at the end of the field
  at_end : {value : ℕ} → StopSays most f (Some value) (length f)
  -- no byte at all
  at_once : f ≡ [] → StopSays most f None 0
  -- at the first byte after which no number can follow
  at_byte : {stop : ℕ} → stop < length f → NoneFollows most (take (suc stop) f) → ((j : ℕ) → j < stop → SomeFollows most (take (suc j) f)) → StopSays most f None stop

-- What is left where a text is put into a room. Assumes nothing.
use Rattle.std.specs.Prelude.{ℕ, ◌+◌, ◌≡◌, List, [], ◌∷◌, ◌++◌, length}
use Rattle.std.proofs.lemmas.List.Edits.{sets}
use Rattle.numbers.specs.Numbers.{spell}
use Rattle.writing.specs.declared.Output.{Output}

-- The text is written into the buffer old from the index `at` on, as far as there are places, and new is what that leaves. The index
-- behind the text is r.
pub record Put (text : List ℕ) (at : ℕ) (old : List ℕ) (r : ℕ) (new : List ℕ) : Type 0 where
  pub laid : new ≡ sets old at text
  pub next : r ≡ at + length text

-- An output adds the text behind what it has put, in the same room.
pub record Adds (text : List ℕ) (old new : Output) : Type 0 where
  pub same_room : new.room.ghost_name ≡ old.room.ghost_name
  pub put : Put text old.at old.room.now new.at new.room.now

-- Each number's spelling behind the separator: what follows the first of joined numbers.
abbrev pub listed : ℕ → List ℕ → List ℕ
listed separator [] = []
listed separator (n ∷ ns) = separator ∷ (spell n ++ listed separator ns)

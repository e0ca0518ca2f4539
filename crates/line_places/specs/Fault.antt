-- What a place that is not 0 says: something stands there that is at fault, and nothing of the same rank is at fault further left.
use Rattle.std.specs.Prelude.{ℕ, suc, ◌<◌, ◌≡◌, Bool, true, false, List, length, get_or}
use Rattle.text.specs.Lines.{printable_byte}
use Rattle.fields.specs.Fields.{part_start}

-- The place of a field that passes the test, the leftmost.
pub record FieldAtFault (f : ℕ → Bool) (fs : List (List ℕ)) (place : ℕ) : Type 0 where
  pub index : ℕ
  pub inside : index < length fs
  pub is : place ≡ suc (part_start fs index)
  pub cause : f index ≡ true
  pub first : (j : ℕ) → j < index → f j ≡ false

-- The place of a byte outside 32 to 126, the first.
pub record ByteAtFault (bs : List ℕ) (place : ℕ) : Type 0 where
  pub index : ℕ
  pub inside : index < length bs
  pub is : place ≡ suc index
  pub cause : printable_byte (get_or bs index 0) ≡ false
  pub first : (j : ℕ) → j < index → printable_byte (get_or bs j 0) ≡ true

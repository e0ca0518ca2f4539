-- Facts about lists that the library lacks, in the form that the code's indices have.
-- Assumes nothing.
use mathlib.Core.Path.{◌≡◌}
use mathlib.Core.List.{List, ◌∷◌}
use Prim.Native.Nat.{ℕ, ◌+◌, ◌-◌, ◌<◌}
use native.Mathlib.Numerals.{add-one}
use native.Mathlib.Omega.{arith}
use lib.ListN.{length, get_or, take, drop, length-drop}
use lib.Seq.{drop-cons, take_all}

pub drop_step : (l : List ℕ) (i : ℕ) → i < length l → drop i l ≡ get_or l i 0 ∷ drop (i + 1) l
drop_step l i h = rw add-one (drop-cons l i 0 h)

-- What `&s[a..]` lends.
pub rest_part : (l : List ℕ) (a : ℕ) → take (length l - a) (drop a l) ≡ drop a l
rest_part l a = take_all (length l - a) (drop a l) (omega (arith, length-drop a l))

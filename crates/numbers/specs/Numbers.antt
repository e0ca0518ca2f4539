-- A number (document 01, "Texts"): decimal, without a leading zero, up to a largest one.
use Rattle.std.specs.Prelude.{ℕ, zero, suc, ◌+◌, ◌-◌, ◌*◌, ◌/◌, ◌%◌, Bool, true, false, not, cond, ◌&&◌, List, [], ◌∷◌, ◌++◌, leb, ltb, eqb, length, take}
use Rattle.std.specs.Prelude.{Option, Some, None, is_some, unwrap_or, Result, Ok, Err}
use Rattle.lists.specs.Leftmost.{leftmost}
use Rattle.text.specs.Split.{first_part}
use Rattle.layout.specs.Layout.{most_number}

-- A digit's byte, 48 to 57.
abbrev pub digit : ℕ → Bool
digit b = leb 48 b && leb b 57

unfoldable pub digits : List ℕ → Bool
digits [] = true
digits (b ∷ bs) = digit b && digits bs

-- The value of digits, after those whose value is v.
unfoldable pub value_from : ℕ → List ℕ → ℕ
value_from v [] = v
value_from v (b ∷ bs) = value_from (v * 10 + (b - 48)) bs

-- At least one byte, and no zero in front of another.
abbrev pub plain : List ℕ → Bool
plain [] = false
plain (b ∷ []) = true
plain (b ∷ (d ∷ bs)) = not (eqb b 48)

-- The number that the bytes spell, if they spell one that is at most `most`.
unfoldable pub decimal : ℕ → List ℕ → Option ℕ
decimal most bs = cond (plain bs && digits bs && leb (value_from 0 bs) most) (Some (value_from 0 bs)) None

abbrev pub number_of : List ℕ → Option ℕ
number_of bs = decimal most_number bs

-- The bytes are a number; and which: the value that is meant only where they are one.
abbrev pub is_number : List ℕ → Bool
is_number bs = is_some (number_of bs)

abbrev pub value_of : List ℕ → ℕ
value_of bs = unwrap_or (number_of bs) 0

-- Where reading stops in a field: at the first byte after which no number can follow, since the bytes up to it are none; or at the field's end.
abbrev pub stop_of : ℕ → List ℕ → ℕ
stop_of most f = leftmost (λ i. not (is_some (decimal most (take (suc i) f)))) (length f)

-- What reading answers for the bytes before the first separator: the number and where reading stopped, or only that.
abbrev pub first_number : ℕ → List ℕ → Option ℕ
first_number separator bs = decimal most_number (first_part separator bs)

abbrev pub first_stop : ℕ → List ℕ → ℕ
first_stop separator bs = stop_of most_number (first_part separator bs)

abbrev pub read_answer : Option ℕ → ℕ → Result (ℕ × ℕ) ℕ
read_answer None stop = Err stop
read_answer (Some n) stop = Ok (n, stop)

-- At the end of a field of so many bytes, which are digits of this value: no byte is no number.
abbrev pub end_of : ℕ → ℕ → Result (ℕ × ℕ) ℕ
end_of size value = cond (eqb size 0) (Err 0) (Ok (value, size))

unfoldable pub first_read : ℕ → List ℕ → Result (ℕ × ℕ) ℕ
first_read separator bs = read_answer (first_number separator bs) (first_stop separator bs)

-- The spelling of a number in at most d digits.
unfoldable pub spell_in : ℕ → ℕ → List ℕ
spell_in zero n = []
spell_in (suc d) n = let front = spell_in d (n / 10) in cond (ltb n 10) ((48 + n) ∷ []) (front ++ ((48 + n % 10) ∷ []))

-- The spelling of a number. A number never has more digits than its successor counts.
abbrev pub spell : ℕ → List ℕ
spell n = spell_in (suc n) n

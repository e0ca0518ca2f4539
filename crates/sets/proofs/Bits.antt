-- Bit arithmetic behind the laws of sets: the members of a half, of a remainder, of the machine's `|` and `&`; sums and shifts.
use Prim.Native.Nat.{ℕ, zero, suc, ◌+◌, ◌-◌, ◌*◌, ◌/◌, ◌%◌, ◌^◌, ◌<◌}
use mathlib.Core.Path.{◌≡◌, refl, sym, ap, ◌∙◌}
use mathlib.Core.Bool.{Bool, true, false, not, ◌&&◌, ◌||◌}
use native.Mathlib.Nat.{add_comm, one-mul, zero-add, zero-mul, div-one, zero-div, mod-eq_of_lt, mod-lt}
use native.Mathlib.Numerals.{one-add}
use native.Mathlib.Omega.{arith}
use lib.Dec.{eqb}
use lib.Bits.{bit_or, bit_and, or_shr, and_shr, or_mod, and_mod, or_comm, or_shifted}
use lib.Pow.{shr-shr, field, mod-mod-pow, pow_pos, split}
use Rattle.sets.specs.Sets.{member}

-- an operation that is g on the digits 0 and 1 is g on any two digits
by_digit : (op : ℕ → ℕ → ℕ) (g : Bool → Bool → Bool)
    → eqb (op 0 0) 1 ≡ g false false → eqb (op 0 1) 1 ≡ g false true → eqb (op 1 0) 1 ≡ g true false → eqb (op 1 1) 1 ≡ g true true
    → (a b : ℕ) → a < 2 → b < 2 → eqb (op a b) 1 ≡ g (eqb a 1) (eqb b 1)
by_digit op g e00 e01 e10 e11 zero zero ha hb = e00
by_digit op g e00 e01 e10 e11 zero (suc zero) ha hb = e01
by_digit op g e00 e01 e10 e11 (suc zero) zero ha hb = e10
by_digit op g e00 e01 e10 e11 (suc zero) (suc zero) ha hb = e11
by_digit op g e00 e01 e10 e11 zero (suc (suc b)) ha hb = absurd (omega arith)
by_digit op g e00 e01 e10 e11 (suc zero) (suc (suc b)) ha hb = absurd (omega arith)
by_digit op g e00 e01 e10 e11 (suc (suc a)) b ha hb = absurd (omega arith)

pub member_or : (i s t : ℕ) → member i (bit_or s t) ≡ (member i s || member i t)
member_or i s t =
    rw (or_shr s t i, or_mod (s / 2 ^ i) (t / 2 ^ i) 1)
    (by_digit bit_or (λ a b. a || b) refl refl refl refl (s / 2 ^ i % 2) (t / 2 ^ i % 2) (omega arith) (omega arith))

pub member_and : (i s t : ℕ) → member i (bit_and s t) ≡ (member i s && member i t)
member_and i s t =
    rw (and_shr s t i, and_mod (s / 2 ^ i) (t / 2 ^ i) 1)
    (by_digit bit_and (λ a b. a && b) refl refl refl refl (s / 2 ^ i % 2) (t / 2 ^ i % 2) (omega arith) (omega arith))

-- a digit is told by its test
pub digit_ext : (a b : ℕ) → a < 2 → b < 2 → eqb a 1 ≡ eqb b 1 → a ≡ b
digit_ext zero zero ha hb e = refl
digit_ext (suc zero) (suc zero) ha hb e = refl
digit_ext zero (suc zero) ha hb e = let z : ◌≡◌ {A = ℕ} 0 1 = cc in z
digit_ext (suc zero) zero ha hb e = let z : ◌≡◌ {A = ℕ} 1 0 = cc in z
digit_ext zero (suc (suc b)) ha hb e = absurd (omega arith)
digit_ext (suc zero) (suc (suc b)) ha hb e = absurd (omega arith)
digit_ext (suc (suc a)) b ha hb e = absurd (omega arith)

pub member_zero : (s : ℕ) → member 0 s ≡ eqb (s % 2) 1
member_zero s = ap (λ (m : ℕ). eqb (m % 2) 1) (div-one s)

pub member_add : (n i s : ℕ) → member (n + i) s ≡ member i (s / 2 ^ n)
member_add n i s = ap (λ (m : ℕ). eqb (m % 2) 1) (sym (shr-shr s n i))

pub member_suc : (i s : ℕ) → member (suc i) s ≡ member i (s / 2)
member_suc i s = ap (λ (k : ℕ). member k s) (sym (one-add i)) ∙ member_add 1 i s

pub member_empty : (i : ℕ) → member i 0 ≡ false
member_empty i = ap (λ (m : ℕ). eqb (m % 2) 1) (zero-div (2 ^ i))

pub below_own_power : (s : ℕ) → s < 2 ^ s
below_own_power zero = omega arith
below_own_power (suc s) = let h = below_own_power s in omega arith

-- the members below n stay in the remainder by 2 ^ n
pub member_mod : (n i s : ℕ) → i < n → member i (s % 2 ^ n) ≡ member i s
member_mod n i s h = rw split (ap (λ (m : ℕ). eqb m 1) (ap (λ (m : ℕ). m % 2) (field s (n - suc i + 1) i) ∙ mod-mod-pow (s / 2 ^ i) (n - suc i) 1))
  where
    split : n ≡ n - suc i + 1 + i
    split = omega arith

-- 2 ^ n - 1 has every member below n, so x below 2 ^ n taken from it leaves the others
pub member_mirror : (n i x : ℕ) → i < n → x < 2 ^ n → member i (2 ^ n - 1 - x) ≡ not (member i x)
member_mirror zero i x h l = absurd (omega arith)
member_mirror (suc n) zero x h l = member_zero (2 ^ suc n - 1 - x) ∙ go (x % 2) ((2 ^ suc n - 1 - x) % 2) (omega arith) ∙ ap not (sym (member_zero x))
  where
    go : (a b : ℕ) → a + b ≡ 1 → eqb b 1 ≡ not (eqb a 1)
    go zero (suc zero) e = refl
    go (suc zero) zero e = refl
    go zero zero e = absurd (omega arith)
    go (suc zero) (suc b) e = absurd (omega arith)
    go zero (suc (suc b)) e = absurd (omega arith)
    go (suc (suc a)) b e = absurd (omega arith)
member_mirror (suc n) (suc i) x h l =
    let half : (2 ^ suc n - 1 - x) / 2 ≡ 2 ^ n - 1 - x / 2 = omega arith in
    member_suc i (2 ^ suc n - 1 - x) ∙ ap (member i) half ∙ member_mirror n i (x / 2) (omega arith) (omega arith) ∙ ap not (sym (member_suc i x))

pub quotient_below : (n s : ℕ) → s / 2 ^ n ≡ 0 → s < 2 ^ n
quotient_below n s e =
    let low : s % 2 ^ n < 2 ^ n = mod-lt s (pow_pos n) in
    rw (← split s n, e) (rw (zero-mul, zero-add) low)

-- a member above all others is put in by a sum
pub sum_or : (n s : ℕ) → s < 2 ^ n → s + 2 ^ n ≡ bit_or s (2 ^ n)
sum_or n s h = add_comm s (2 ^ n) ∙ sym (rw one-mul at (or_shifted 1 n s h)) ∙ or_comm (2 ^ n) s

-- the machine's shift of 1, which is kept modulo m
pub shift_exact : (m n : ℕ) → 2 ^ n < m → 1 * 2 ^ n % m ≡ 2 ^ n
shift_exact m n h = rw (one-mul (2 ^ n)) (mod-eq_of_lt h)

-- Whether bytes are a number, and which, from what reading them answers.
-- Assumes nothing.
use mathlib.Core.Path.{◌≡◌, refl, sym, ap, ◌∙◌}
use mathlib.Core.Bool.{true, false}
use mathlib.Core.List.{List}
use Rattle.std.specs.Prelude.{Option, Some, None, is_some, unwrap_or, Result, Ok, Err}
use Prim.Native.Nat.{ℕ}
use native.Mathlib.Omega.{arith}
use lib.ListN.{length}
use Rattle.text.specs.Split.{first_part}
use Rattle.layout.specs.Layout.{most_number}
use Rattle.numbers.specs.Numbers.{is_number, value_of, first_number, first_stop, read_answer, first_read}
use Rattle.numbers.specs.Stops.{StopSays, at_end, at_once, at_byte}
use Rattle.numbers.proofs.Stops.{value_in, stop_in, stops}

module _ (sep : ℕ) (bs : List ℕ) (r : Result (ℕ × ℕ) ℕ) (given : r ≡ first_read sep bs) where
  first_none : (o : Option ℕ) (s stop : ℕ) → Err stop ≡ read_answer o s → None ≡ o
  first_none None s stop e = refl
  first_none (Some n) s stop e = let z : ◌≡◌ {A = ℕ} 0 1 = cc in absurd (omega arith)

  first_some : (o : Option ℕ) (s n stop : ℕ) → Ok (n, stop) ≡ read_answer o s → (Some n ≡ o) × (stop ≡ s)
  first_some None s n stop e = let z : ◌≡◌ {A = ℕ} 0 1 = cc in absurd (omega arith)
  first_some (Some m) s n stop e = (ap (λ (k : ℕ). Some k) (ap value_in e), ap stop_in e)

  pub stopped_none : (stop : ℕ) → r ≡ Err stop → false ≡ is_number (first_part sep bs)
  unfolding first_read
  stopped_none stop p = ap is_some (first_none (first_number sep bs) (first_stop sep bs) stop (sym p ∙ given))

  module _ (n stop : ℕ) (p : r ≡ Ok (n, stop)) where
    read : (Some n ≡ first_number sep bs) × (stop ≡ first_stop sep bs)
    unfolding first_read
    read = first_some (first_number sep bs) (first_stop sep bs) n stop (sym p ∙ given)

    pub ended_number : true ≡ is_number (first_part sep bs)
    ended_number = ap is_some read.0

    pub ended_value : n ≡ value_of (first_part sep bs)
    ended_value = ap (λ (o : Option ℕ). unwrap_or o 0) read.0

    pub ended_stop : stop ≡ length (first_part sep bs)
    ended_stop = read.1 ∙ at_length (first_number sep bs) (first_stop sep bs) (sym read.0) (stops most_number (first_part sep bs))
      where
        at_length : (o : Option ℕ) (s : ℕ) → o ≡ Some n → StopSays most_number (first_part sep bs) o s → s ≡ length (first_part sep bs)
        at_length o s e at_end = refl
        at_length o s e (at_once f) = let z : ◌≡◌ {A = ℕ} 0 1 = cc in absurd (omega arith)
        at_length o s e (at_byte h f g) = let z : ◌≡◌ {A = ℕ} 0 1 = cc in absurd (omega arith)

-- The fields of a line below the header: their number, and which are no numbers.
-- Assumes nothing.
use mathlib.Core.Path.{◌≡◌, refl, sym, ◌∙◌}
use mathlib.Core.Bool.{Bool, false, not}
use mathlib.Core.List.{List, []}
use Prim.Native.Nat.{ℕ, ◌+◌, ◌-◌, ◌≤◌, ◌<◌}
use native.Mathlib.Omega.{arith}
use borrow.Author.Tests.{eq-eqb, ne_eqb}
use lib.ListN.{length, get_or}
use Rattle.std.specs.Prelude.{Option, None, is_some}
use Rattle.numbers.specs.Numbers.{number_of}
use Rattle.line_places.specs.Place.{as_place, place_where}
use Rattle.pattern_places.specs.Place.{no_number, malformed_at}

pub rule_any : (fs : List (List ℕ)) (i : ℕ) → i ≡ 1 → false ≡ no_number fs i
unfolding no_number
rule_any fs i e = sym (rw (eq-eqb i 1 e) refl)

pub number_not : (fs : List (List ℕ)) (i : ℕ) (x : Option ℕ) → (i ≡ 1 → ⊥) → x ≡ number_of (get_or fs i []) → (t : Bool) → t ≡ not (is_some x) → t ≡ no_number fs i
unfolding no_number
number_not fs i x n g t e = e ∙ sym (rw (ne_eqb i 1 n, sym g) refl)

pub ruleset number_kit = (rule_any, number_not)

-- n fields, c labels
module _ (fs : List (List ℕ)) (n c : ℕ) (count : n ≡ length fs) where
  pub count_low : n < 4 → None ≡ as_place (malformed_at c fs)
  unfolding as_place
  count_low h = sym (rw (ne_eqb (length fs) (4 + c) (λ e. absurd (omega arith))) refl)

  pub count_wrong : 4 ≤ n → (n - 4 ≡ c → ⊥) → None ≡ as_place (malformed_at c fs)
  unfolding as_place
  count_wrong h d = sym (rw (ne_eqb (length fs) (4 + c) (λ e. d (omega arith))) refl)

  pub count_right : 4 ≤ n → n - 4 ≡ c → (p : Option ℕ) → p ≡ as_place (place_where (no_number fs) fs) → p ≡ as_place (malformed_at c fs)
  count_right low right p e = e ∙ sym (rw (eq-eqb (length fs) (4 + c) (omega arith)) refl)

pub ruleset malformed_kit = (count_low, count_wrong, count_right)

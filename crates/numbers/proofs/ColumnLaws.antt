-- A field of a line, found by its index, as a number; a field that is not there is none.
-- Assumes nothing.
use mathlib.Core.Path.{◌≡◌, refl, sym, ap, ◌∙◌}
use mathlib.Core.List.{List, [], ◌∷◌}
use Rattle.std.specs.Prelude.{Option, Some, None, Result, Ok, Err}
use Prim.Native.Nat.{ℕ, zero, suc}
use native.Mathlib.Omega.{arith}
use lib.ListN.{get_or}
use Rattle.text.specs.Split.{split, first_part, joined}
use Rattle.text.proofs.Spelled.{Lacks, AllLack, split_lacks, split_parts}
use Rattle.layout.specs.Layout.{most_number}
use Rattle.numbers.proofs.Stops.{value_in}
use Rattle.numbers.specs.Numbers.{decimal, number_of, stop_of, read_answer, first_read}

-- A field has no space, so it is all that stands before the first.
part_lacks : (ps : List (List ℕ)) (i : ℕ) → AllLack 32 ps → Lacks 32 (get_or ps i [])
part_lacks [] i f = tt
part_lacks (p ∷ ps) zero f = f.0
part_lacks (p ∷ ps) (suc i) f = part_lacks ps i f.1

field_alone : (l : List ℕ) (i : ℕ) → first_part 32 (get_or (split 32 l) i []) ≡ get_or (split 32 l) i []
unfolding joined
field_alone l i = ap (λ (ps : List (List ℕ)). get_or ps 0 []) (split_parts 32 (get_or (split 32 l) i []) [] (part_lacks (split 32 l) i (split_lacks 32 l), tt))

module _ (l : List ℕ) (i : ℕ) (f : List ℕ) (given : f ≡ get_or (split 32 l) i []) (n : Result (ℕ × ℕ) ℕ) (q : n ≡ first_read 32 f) where
  reads : n ≡ read_answer (decimal most_number (get_or (split 32 l) i [])) (stop_of most_number (get_or (split 32 l) i []))
  unfolding first_read
  reads = q ∙ ap (λ (g : List ℕ). read_answer (decimal most_number g) (stop_of most_number g)) (ap (first_part 32) given ∙ field_alone l i)

  pub number_stops : (stop : ℕ) → n ≡ Err stop → None ≡ number_of (get_or (split 32 l) i [])
  number_stops stop e = go (decimal most_number (get_or (split 32 l) i [])) (sym e ∙ reads)
    where
      go : (o : Option ℕ) → Err stop ≡ read_answer o (stop_of most_number (get_or (split 32 l) i [])) → None ≡ o
      go None g = refl
      go (Some m) g = let z : ◌≡◌ {A = ℕ} 0 1 = cc in absurd (omega arith)

  pub number_ends : (value stop : ℕ) → n ≡ Ok (value, stop) → Some value ≡ number_of (get_or (split 32 l) i [])
  number_ends value stop e = go (decimal most_number (get_or (split 32 l) i [])) (sym e ∙ reads)
    where
      go : (o : Option ℕ) → Ok (value, stop) ≡ read_answer o (stop_of most_number (get_or (split 32 l) i [])) → Some value ≡ o
      go None g = let z : ◌≡◌ {A = ℕ} 0 1 = cc in absurd (omega arith)
      go (Some m) g = ap (λ (k : ℕ). Some k) (ap value_in g)

pub ruleset column_kit = (number_stops, number_ends)

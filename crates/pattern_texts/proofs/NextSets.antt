-- The tests of 15 and 16 on a row's next sets: what they say, set by set, and back.
use Prim.Native.Nat.{ℕ, zero, suc, ◌^◌, ◌<◌}
use mathlib.Core.Path.{◌≡◌, refl, sym, ◌∙◌}
use mathlib.Core.Bool.{Bool, true, false, not, ◌&&◌}
use mathlib.Core.List.{List, [], ◌∷◌}
use native.Mathlib.Omega.{arith}
use borrow.Author.Tests.{lt-ltb, ltb-true, not-false}
use lib.Dec.{T}
use lib.ListN.{length, get_or}
use Rattle.layout.specs.Layout.{most_states}
use Rattle.rules.specs.Rules.{needs_one_next}
use Rattle.sets.specs.Sets.{within, single}
use Rattle.sets.proofs.Truth.{yes_true, true_yes, both_true}
use Rattle.pattern_order.specs.StateLine.{StateLine}
use Rattle.pattern_store.specs.Next.{all_within, all_single, ambiguous}

pub within_out : (n : ℕ) (ss : List ℕ) → all_within n ss ≡ true → (a : ℕ) → a < length ss → get_or ss a 0 < 2 ^ n
unfolding all_within
within_out n [] e a h = absurd (omega arith)
within_out n (s ∷ ss) e zero h = ltb-true s (2 ^ n) (both_true (within n s) (all_within n ss) e).0
within_out n (s ∷ ss) e (suc a) h = within_out n ss (both_true (within n s) (all_within n ss) e).1 a (omega arith)

pub within_in : (n : ℕ) (ss : List ℕ) → ((a : ℕ) → a < length ss → get_or ss a 0 < 2 ^ n) → all_within n ss ≡ true
unfolding all_within
within_in n [] f = refl
within_in n (s ∷ ss) f = rw (lt-ltb s (2 ^ n) (f 0 (omega arith))) (within_in n ss (λ a h. f (suc a) (omega arith)))

pub single_out : (ss : List ℕ) → all_single ss ≡ true → (a : ℕ) → a < length ss → T (single most_states (get_or ss a 0))
unfolding all_single
single_out [] e a h = absurd (omega arith)
single_out (s ∷ ss) e zero h = true_yes (single most_states s) (both_true (single most_states s) (all_single ss) e).0
single_out (s ∷ ss) e (suc a) h = single_out ss (both_true (single most_states s) (all_single ss) e).1 a (omega arith)

pub single_in : (ss : List ℕ) → ((a : ℕ) → a < length ss → T (single most_states (get_or ss a 0))) → all_single ss ≡ true
unfolding all_single
single_in [] f = refl
single_in (s ∷ ss) f = rw (yes_true (single most_states s) (f 0 (omega arith))) (single_in ss (λ a h. f (suc a) (omega arith)))

-- Where the rule needs just one next state, a row that is not ambiguous has only next sets of one state.
pub not_ambiguous : (r : StateLine) → ambiguous r ≡ false → T (needs_one_next r.rule) → all_single r.next ≡ true
not_ambiguous r e d = not-false (all_single r.next) (sym (rw (yes_true (needs_one_next r.rule) d)) ∙ e)

pub unambiguous : (r : StateLine) → (T (needs_one_next r.rule) → all_single r.next ≡ true) → ambiguous r ≡ false
unambiguous r f = go (needs_one_next r.rule) refl
  where
    go : (t : Bool) → needs_one_next r.rule ≡ t → (t && not (all_single r.next)) ≡ false
    go true e = rw (f (true_yes (needs_one_next r.rule) e))
    go false e = refl

-- The first phase: which prefixes hold, marked bead by bead.
-- Assumes nothing.
use Prim.Native.Nat.{ℕ, suc, ◌+◌, ◌-◌, ◌*◌, ◌/◌, ◌%◌, ◌≤◌, ◌<◌, min}
use mathlib.Core.Path.{◌≡◌, sym, ap, ◌∙◌}
use mathlib.Core.Logic.{◌⊎◌, inl, inr}
use mathlib.Core.Bool.{Bool, true, false, ◌&&◌, ◌||◌, or-false}
use mathlib.Core.List.{List}
use native.Mathlib.Nat.{lt_of_lt_of_le, mul-le-mul_right, suc-mul}
use native.Mathlib.Numerals.{add-one}
use native.Mathlib.Decide.{ℕ_discrete, dec_lt}
use native.Mathlib.Omega.{arith}
use borrow.Author.Tests.{lt-ltb, le-leb, lt-leb, eq-eqb, ne_eqb}
use lib.Arith.{digits_div, digits_mod, digits_lt}
use lib.Dec.{T, ltb, leb, eqb, le→leb}
use lib.ListN.{get_or}
use lib.Pow.{pow_mono}
use Rattle.sets.specs.Sets.{member, some_below}
use Rattle.sets.proofs.Laws.{ext, below_within, some_below_none, some_below_out, some_below_in}
use Rattle.sets.proofs.Truth.{same, or_l, or_r, or_cases, and_i, and_r, no_false}
use Rattle.sets.proofs.Bits.{member_empty}
use Rattle.necklace.specs.Dag.{Dag}
use Rattle.necklace.specs.Necklace.{Pattern}
use Rattle.necklace.specs.Compute.{holds?, serves?, prefixes}
use Rattle.necklace.proofs.RowMeaning.{prefixes_member, prefixes_below}
use Rattle.layout.specs.Layout.{set_width}
use Rattle.marking.specs.Marking.{Added}
use Rattle.serving.specs.Serving.{serves_in}
use Rattle.prefix_phase.specs.Marked.{MarkedUpTo}

-- The turn of the bead k and the vertex v is no other's.
pub one_turn : (n j w k v : ℕ) → w < n → v < n → j * n + w ≡ k * n + v → (j ≡ k) × (w ≡ v)
one_turn n j w k v h l e =
    (sym (digits_div j h) ∙ ap (λ (x : ℕ). x / n) e ∙ digits_div k l, sym (digits_mod j h) ∙ ap (λ (x : ℕ). x % n) e ∙ digits_mod k l)

module _ (G : Dag) (P : Pattern) (n : ℕ) (marks : List ℕ) where
  pub marked_none : ((v : ℕ) → get_or marks v 0 ≡ 0) → MarkedUpTo G P n 0 marks
  marked_none z = record {
    few = λ v. let e = z v in omega arith;
    marks = λ k v h l.
        let e : min (0 - k * n) (suc v) ≡ 0 = omega arith in
        ap (member k) (z v) ∙ member_empty k ∙ sym (ap (λ (m : ℕ). some_below m (serves? G P k v)) e ∙ some_below_none (serves? G P k v));
  }

  -- a bead whose turns are all made
  pub marked_whole : (i : ℕ) → MarkedUpTo G P n i marks → (k v : ℕ) → k < set_width → v < n → k * n + v < i → member k (get_or marks v 0) ≡ holds? G P (suc k) v
  unfolding holds?
  marked_whole i m k v h l g =
      let e : min (i - k * n) (suc v) ≡ suc v = omega arith in
      m.marks k v h l ∙ ap (λ (x : ℕ). some_below x (serves? G P k v)) e

  -- and one that has had none
  pub marked_not_yet : (i : ℕ) → MarkedUpTo G P n i marks → (k v : ℕ) → k < set_width → v < n → i ≤ k * n → member k (get_or marks v 0) ≡ false
  marked_not_yet i m k v h l g =
      let e : min (i - k * n) (suc v) ≡ 0 = omega arith in
      m.marks k v h l ∙ ap (λ (x : ℕ). some_below x (serves? G P k v)) e ∙ some_below_none (serves? G P k v)

-- some number below b, from a on, or some below a
from_on : (a b : ℕ) (f : ℕ → Bool) → a ≤ b → (some_below a f || some_below b (λ u. leb a u && f u)) ≡ some_below b f
from_on a b f h = same (some_below a f || some_below b (λ u. leb a u && f u)) (some_below b f) (λ t. forth (or_cases (some_below a f) (some_below b (λ u. leb a u && f u)) t)) back
  where
    forth : T (some_below a f) ⊎ T (some_below b (λ u. leb a u && f u)) → T (some_below b f)
    forth (inl t) = let u = some_below_out a f t in let l = u.1 in some_below_in b f u.0 (omega arith) u.2
    forth (inr t) = let u = some_below_out b (λ u. leb a u && f u) t in some_below_in b f u.0 u.1 (and_r (leb a u.0) (f u.0) u.2)

    back : T (some_below b f) → T (some_below a f || some_below b (λ u. leb a u && f u))
    back t = go (dec_lt u.0 a)
      where
        u : (u : ℕ) × (u < b) × T (f u)
        u = some_below_out b f t

        go : Dec (u.0 < a) → T (some_below a f || some_below b (λ u. leb a u && f u))
        go (yes l) = or_l (some_below a f) (some_below b (λ u. leb a u && f u)) (some_below_in a f u.0 l u.2)
        go (no l) =
            or_r (some_below a f) (some_below b (λ u. leb a u && f u))
            (some_below_in b (λ u. leb a u && f u) u.0 u.1 (and_i (leb a u.0) (f u.0) (le→leb a u.0 (omega arith)) u.2))

-- A turn of the bead k adds it where a candidate from `from` on and below `to` serves.
module _ (G : Dag) (P : Pattern) (n i : ℕ) (marks new : List ℕ) (m : MarkedUpTo G P n i marks) (k from to : ℕ) (turn : i ≡ k * n + from) (start : from < n) (some : from < to)
    (in_log : to ≤ n) (a : Added (serves_in G P k from to) k from n marks new) where
  -- the next turn
  abbrev i' : ℕ
  i' = k * n + to

  added_at : (v : ℕ) → v < n → (b : Bool) → (b || (true && (leb from v && (ltb v n && serves_in G P k from to v)))) ≡ (b || (leb from v && serves_in G P k from to v))
  added_at v l b = rw (lt-ltb v n l)

  own : (v : ℕ) → v < n → Dec (v < from)
      → (some_below (min (i - k * n) (suc v)) (serves? G P k v) || (leb from v && serves_in G P k from to v)) ≡ some_below (min (i' - k * n) (suc v)) (serves? G P k v)
  unfolding serves_in
  own v l (yes h) =
      let e : min (i - k * n) (suc v) ≡ suc v = omega arith in
      let f : min (i' - k * n) (suc v) ≡ suc v = omega arith in
      rw (e, f, lt-leb from v h) (or-false (some_below (suc v) (serves? G P k v)))
  own v l (no h) =
      let e : min (i - k * n) (suc v) ≡ from = omega arith in
      let f : min (i' - k * n) (suc v) ≡ min to (suc v) = omega arith in
      rw (e, f, le-leb from v (omega arith)) (from_on from (min to (suc v)) (serves? G P k v) (omega arith))

  -- other beads have had all their turns, or none
  lower : (j v : ℕ) → v < n → j < k → min (i - j * n) (suc v) ≡ min (i' - j * n) (suc v)
  lower j v l h = let q : j * n + v < k * n = digits_lt h l in omega arith

  higher : (j v : ℕ) → k < j → min (i - j * n) (suc v) ≡ min (i' - j * n) (suc v)
  higher j v h = let q : (k + 1) * n ≤ j * n = mul-le-mul_right n (let z : k + 1 ≤ j = omega arith in z) in let r : (k + 1) * n ≡ k * n + n = next_row k n in omega arith
    where
      next_row : (a b : ℕ) → (a + 1) * b ≡ a * b + b
      next_row a b = ap (λ (x : ℕ). x * b) (add-one a) ∙ suc-mul a b

  other : (j v : ℕ) → v < n → (j ≡ k → ⊥) → Dec (j < k) → min (i - j * n) (suc v) ≡ min (i' - j * n) (suc v)
  other j v l e (yes h) = lower j v l h
  other j v l e (no h) = higher j v (omega arith)

  pub marked_turn : MarkedUpTo G P n i' new
  marked_turn = record { few = a.few m.few; marks = λ j v h l. a.sets j v h ∙ go j v h l (ℕ_discrete j k) }
    where
      go : (j v : ℕ) → j < set_width → v < n → Dec (j ≡ k)
          → (member j (get_or marks v 0) || (eqb j k && (leb from v && (ltb v n && serves_in G P k from to v)))) ≡ some_below (min (i' - j * n) (suc v)) (serves? G P j v)
      go j v h l (yes e) =
          rw (eq-eqb j k e)
          (added_at v l (member j (get_or marks v 0)) ∙ ap (λ (b : Bool). b || (leb from v && serves_in G P k from to v)) (m.marks j v h l) ∙ rw e (own v l (dec_lt v from)))
      go j v h l (no e) =
          rw (ne_eqb j k e)
          (or-false (member j (get_or marks v 0)) ∙ m.marks j v h l ∙ ap (λ (x : ℕ). some_below x (serves? G P j v)) (other j v l e (dec_lt j k)))

-- After all turns the marks of a vertex are its set of prefixes.
pub marked_all : (G : Dag) (P : Pattern) (n i : ℕ) (marks : List ℕ) → P.count ≤ set_width → i ≡ P.count * n → MarkedUpTo G P n i marks
    → (v : ℕ) → v < n → get_or marks v 0 ≡ prefixes G P v
marked_all G P n i marks few e m v l =
    ext set_width (get_or marks v 0) (prefixes G P v) (m.few v) (lt_of_lt_of_le (prefixes_below G P v) (pow_mono few)) (λ k h. same k h (dec_lt k P.count))
  where
    same : (k : ℕ) → k < set_width → Dec (k < P.count) → member k (get_or marks v 0) ≡ member k (prefixes G P v)
    same k h (yes c) =
        let q : k * n + v < i = rw e (digits_lt c l) in
        marked_whole G P n marks i m k v h l q ∙ sym (prefixes_member G P v k c)
    same k h (no c) =
        let q : i ≤ k * n = rw e (mul-le-mul_right n (not_less c)) in
        marked_not_yet G P n marks i m k v h l q
        ∙ sym (no_false (member k (prefixes G P v)) (λ t. c (below_within P.count (prefixes G P v) (prefixes_below G P v) k t)))
      where
        not_less : (k < P.count → ⊥) → P.count ≤ k
        not_less c = omega arith

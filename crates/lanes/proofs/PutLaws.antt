-- The lanes of a step put down, and those that begin there.
use Prim.Native.Nat.{ℕ, ◌+◌, ◌-◌, ◌*◌, ◌≤◌, ◌<◌}
use mathlib.Core.Path.{◌≡◌, refl, sym, ap, ◌∙◌}
use mathlib.Core.Bool.{Bool, ◌||◌, or-false}
use mathlib.Core.List.{List, ◌++◌}
use native.Mathlib.Decide.{dec_lt}
use native.Mathlib.Omega.{arith}
use lib.ListN.{length, get_or, set, take, drop, length-take, get_or-append}
use borrow.Rule.Slice.PartMut.{put_mid}
use lib.Seq.{get_or-set_same, get_or-set_other, get_or-take, get_or-drop}
use Rattle.std.proofs.lemmas.List.{get_or-append_right}
use Rattle.std.proofs.Math.Nat.{min-eq_left}
use Rattle.sets.specs.Sets.{member, union}
use Rattle.sets.proofs.Bits.{member_empty}
use Rattle.sets.proofs.Laws.{member_union}
use Rattle.layout.specs.Layout.{most_states, most_lanes, most_steps, work_length}
use Rattle.lanes.specs.Lanes.{work_at, PutTo, BegunAt}

-- ---- putting down

module _ (a k : ℕ) (l part : List ℕ) (room : a + k ≤ length l) (size : length part ≡ k) where
  front : length (take a l) ≡ a
  front = length-take a l ∙ min-eq_left (omega arith)

  part_within : (q : ℕ) → q < k → get_or (put_mid a k l part) (a + q) 0 ≡ get_or part q 0
  part_within q h =
      get_or-append_right (take a l) (part ++ drop k (drop a l)) a (a + q) 0 front (omega arith)
      ∙ ap (λ (i : ℕ). get_or (part ++ drop k (drop a l)) i 0) (omega arith)
      ∙ get_or-append part (drop k (drop a l)) 0 q (omega arith)

  part_below : (i : ℕ) → i < a → get_or (put_mid a k l part) i 0 ≡ get_or l i 0
  part_below i h =
      get_or-append (take a l) (part ++ drop k (drop a l)) 0 i (rw front h)
      ∙ get_or-take a l i 0 h

  part_above : (i : ℕ) → a + k ≤ i → get_or (put_mid a k l part) i 0 ≡ get_or l i 0
  part_above i h =
      get_or-append_right (take a l) (part ++ drop k (drop a l)) a i 0 front (omega arith)
      ∙ get_or-append_right part (drop k (drop a l)) k (i - a) 0 size (omega arith)
      ∙ get_or-drop k (drop a l) (i - a - k) 0 ∙ get_or-drop a l (k + (i - a - k)) 0
      ∙ ap (λ (j : ℕ). get_or l j 0) (omega arith)

-- a part of the buffer copied over
pub put_all : (x : ℕ) (here part old : List ℕ) → part ≡ take most_states here → most_states ≤ length here → x < most_steps → work_length ≤ length old
    → PutTo most_states x here old (put_mid (most_states * x) (most_states * x + most_states - most_states * x) old part)
put_all x here part old p long few room = rw k (record { own = own; others = λ w q h n. others w q h n (dec_lt w x) })
  where
    k : most_states * x + most_states - most_states * x ≡ most_states
    k = omega arith

    size : length part ≡ most_states
    size = ap length p ∙ length-take most_states here ∙ min-eq_left long

    own : (q : ℕ) → q < most_states → get_or (put_mid (most_states * x) most_states old part) (work_at x q) 0 ≡ get_or here q 0
    own q h = part_within (most_states * x) most_states old part (omega arith) size q h ∙ ap (λ (l : List ℕ). get_or l q 0) p ∙ get_or-take most_states here q 0 h

    others : (w q : ℕ) → q < most_states → (w ≡ x → ⊥) → Dec (w < x) → get_or (put_mid (most_states * x) most_states old part) (work_at w q) 0 ≡ get_or old (work_at w q) 0
    others w q h n (yes l) = part_below (most_states * x) most_states old part (omega arith) size (work_at w q) (omega arith)
    others w q h n (no l) = part_above (most_states * x) most_states old part (omega arith) size (work_at w q) (past n l)
      where
        past : (w ≡ x → ⊥) → (w < x → ⊥) → most_states * x + most_states ≤ work_at w q
        past n l = omega arith

-- ---- the lanes that begin

pub begun_none : (x begin : ℕ) (l : List ℕ) → begin ≡ 0 → BegunAt x begin l l
begun_none x begin l e = record { own = λ i h. sym (ap (λ (b : Bool). member i (get_or l (most_states * x) 0) || b) (ap (member i) e ∙ member_empty i) ∙ or-false _); others = λ y n. refl }

pub begun_some : (x begin : ℕ) (l : List ℕ) (v : ℕ) → x < most_steps → work_length ≤ length l → v ≡ union most_lanes (get_or l (most_states * x) 0) begin → BegunAt x begin l (set l (most_states * x) v)
begun_some x begin l v few long e = record {
  own = λ i h. ap (member i) (get_or-set_same l (most_states * x) v 0 (omega arith) ∙ e) ∙ member_union most_lanes (get_or l (most_states * x) 0) begin i h;
  others = λ y n. get_or-set_other l (most_states * x) y v 0 n;
}

pub ruleset begin_kit = (begun_none, begun_some)

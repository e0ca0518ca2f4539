-- A bead added to the sets of vertices, vertex by vertex.
use Prim.Native.Nat.{ℕ, ◌+◌, ◌-◌, ◌≤◌, ◌<◌}
use mathlib.Core.Path.{◌≡◌, refl, sym, ap, ◌∙◌}
use mathlib.Core.Bool.{Bool, true, false, cond, not, ◌&&◌, ◌||◌, and-true, and-false, or-false}
use mathlib.Core.List.{List, reverse}
use native.Mathlib.Decide.{ℕ_discrete, dec_lt}
use native.Mathlib.Omega.{arith}
use borrow.Author.Tests.{lt-ltb, le-ltb, le-leb, lt-leb, ne_eqb}
use lib.Dec.{ltb, leb, eqb}
use lib.ListN.{length, get_or, set, take, drop, length-take, length-drop}
use lib.Seq.{get_or-set_same, get_or-set_other, get_or-take, get_or-drop}
use Rattle.std.specs.List.{list_all}
use Rattle.std.proofs.lemmas.List.Folds.{list_all_at}
use Rattle.std.proofs.lemmas.List.{get_or-reverse, length-reverse}
use Rattle.std.proofs.Math.Nat.{min-eq_left}
use Rattle.sets.proofs.Truth.{or_none}
use Rattle.sets.specs.Sets.{member, singleton, union}
use Rattle.sets.proofs.Laws.{member_union, member-singleton, union_below}
use Rattle.layout.specs.Layout.{most_steps, set_width}
use Rattle.marking.specs.Marking.{found_at, marked_if, Added, AllMarked}

-- ---- one vertex

pub mark_yes : (prefixes : List ℕ) (k v : ℕ) (b : Bool) → b ≡ true → (x r : ℕ) → x ≡ singleton k → r ≡ union set_width (get_or prefixes v 0) x
    → set prefixes v r ≡ marked_if b k v prefixes
unfolding marked_if
mark_yes prefixes k v b y x r ex er = rw (y, er, ex) refl

pub mark_no : (prefixes : List ℕ) (k v : ℕ) (b : Bool) → b ≡ false → prefixes ≡ marked_if b k v prefixes
unfolding marked_if
mark_no prefixes k v b y = rw y refl

pub ruleset mark_kit = (mark_yes, mark_no)

pub found_is : (found : List ℕ) (v : ℕ) → not (eqb (get_or found v 0) 0) ≡ found_at found v
unfolding found_at
found_is found v = refl

-- ---- the loop over the vertices from u on

later : (x i : ℕ) → (x ≡ i → ⊥) → ltb x (i + 1) ≡ ltb x i
later x i n = go (dec_lt x i)
  where
    go : Dec (x < i) → ltb x (i + 1) ≡ ltb x i
    go (yes h) = lt-ltb x (i + 1) (omega arith) ∙ sym (lt-ltb x i h)
    go (no k) = le-ltb x (i + 1) (rest n k) ∙ sym (le-ltb x i (omega arith))
      where
        rest : (x ≡ i → ⊥) → (x < i → ⊥) → i + 1 ≤ x
        rest n k = omega arith

or_nothing : (a b c : Bool) → (a || (b && (c && false))) ≡ a
or_nothing a b c = ap (λ (t : Bool). a || (b && t)) (and-false c) ∙ or_none a b

-- tests that agree where they count
pub added_ext : (f g : ℕ → Bool) (k u m : ℕ) (old new : List ℕ) → ((v : ℕ) → u ≤ v → v < m → f v ≡ g v) → Added f k u m old new → Added g k u m old new
added_ext f g k u m old new h a = record { few = a.few; sets = λ j v l. a.sets j v l ∙ ap (λ (b : Bool). member j (get_or old v 0) || (eqb j k && b)) (agree v (dec_lt v u) (dec_lt v m)) }
  where
    agree : (v : ℕ) → Dec (v < u) → Dec (v < m) → (leb u v && (ltb v m && f v)) ≡ (leb u v && (ltb v m && g v))
    agree v (yes l) d = rw (lt-leb u v l) refl
    agree v (no l) (yes r) = ap (λ (b : Bool). leb u v && (ltb v m && b)) (h v (omega arith) r)
    agree v (no l) (no r) = rw (le-ltb v m (omega arith)) refl

-- a test that nothing passes
pub added_none : (f : ℕ → Bool) (k u m : ℕ) (old : List ℕ) → ((v : ℕ) → u ≤ v → v < m → f v ≡ false) → Added f k u m old old
added_none f k u m old h =
    added_ext (λ v. false) f k u m old old (λ v l r. sym (h v l r))
    (record { few = λ g. g; sets = λ j v l. sym (ap (λ (b : Bool). member j (get_or old v 0) || (eqb j k && (leb u v && b))) (and-false (ltb v m)) ∙ or_nothing (member j (get_or old v 0)) (eqb j k) (leb u v)) })

pub added_first : (f : ℕ → Bool) (k u : ℕ) (old : List ℕ) → Added f k u u old old
added_first f k u old = added_none f k u u old (λ v l r. absurd (omega arith))

pub added_end : (f : ℕ → Bool) (k u n v : ℕ) (old new : List ℕ) → v ≤ n → n ≤ v → Added f k u v old new → Added f k u n old new
added_end f k u n v old new h l a = let e : v ≡ n = omega arith in rw e at a

module _ (found : List ℕ) (k u v : ℕ) (old l : List ℕ) (a : Added (found_at found) k u v old l) where
  abbrev f : ℕ → Bool
  f = found_at found

  -- the turn of v
  pub added_more : (b : Bool) (new : List ℕ) → b ≡ found_at found v → new ≡ marked_if b k v l → u ≤ v → (n : ℕ) → n ≤ most_steps → v < n → most_steps ≤ length l
      → Added (found_at found) k u (v + 1) old new
  unfolding marked_if
  added_more b new eb e up n few low long = rw (e, eb) (go (f v) refl)
    where
      inside : v < length l
      inside = omega arith

      same : (j w : ℕ) → (w ≡ v → ⊥) → (member j (get_or old w 0) || (eqb j k && (leb u w && (ltb w v && f w)))) ≡ (member j (get_or old w 0) || (eqb j k && (leb u w && (ltb w (v + 1) && f w))))
      same j w n = ap (λ (b : Bool). member j (get_or old w 0) || (eqb j k && (leb u w && (b && f w)))) (sym (later w v n))

      -- before the turn of v nothing was added to its set
      before : (j : ℕ) → j < set_width → member j (get_or l v 0) ≡ member j (get_or old v 0)
      before j h = a.sets j v h ∙ rw (le-ltb v v (omega arith)) (or_nothing (member j (get_or old v 0)) (eqb j k) (leb u v))

      after : (j : ℕ) → (member j (get_or old v 0) || (eqb j k && (leb u v && (ltb v (v + 1) && f v)))) ≡ (member j (get_or old v 0) || (eqb j k && f v))
      after j = rw (le-leb u v up, lt-ltb v (v + 1) (omega arith)) refl

      go : (b : Bool) → f v ≡ b → Added (found_at found) k u (v + 1) old (cond b (set l v (union set_width (get_or l v 0) (singleton k))) l)
      go false q = record { few = a.few; sets = λ j w h. one j w h (ℕ_discrete w v) }
        where
          one : (j w : ℕ) → j < set_width → Dec (w ≡ v) → member j (get_or l w 0) ≡ (member j (get_or old w 0) || (eqb j k && (leb u w && (ltb w (v + 1) && f w))))
          one j w h (yes z) = rw z (before j h ∙ sym (after j ∙ ap (λ (c : Bool). member j (get_or old v 0) || (eqb j k && c)) q ∙ or_none (member j (get_or old v 0)) (eqb j k)))
          one j w h (no n) = a.sets j w h ∙ same j w n
      go true q = record { few = λ g w. small g w (ℕ_discrete w v); sets = λ j w h. one j w h (ℕ_discrete w v) }
        where
          r : ℕ
          r = union set_width (get_or l v 0) (singleton k)

          small : ((w : ℕ) → get_or old w 0 < 65536) → (w : ℕ) → Dec (w ≡ v) → get_or (set l v r) w 0 < 65536
          small g w (yes z) = rw (z, get_or-set_same l v r 0 inside) (union_below set_width (get_or l v 0) (singleton k))
          small g w (no n) = rw (get_or-set_other l v w r 0 n) (a.few g w)

          set_now : (c d : Bool) → (c || d) ≡ (c || (d && true))
          set_now c d = ap (λ (t : Bool). c || t) (sym (and-true d))

          one : (j w : ℕ) → j < set_width → Dec (w ≡ v) → member j (get_or (set l v r) w 0) ≡ (member j (get_or old w 0) || (eqb j k && (leb u w && (ltb w (v + 1) && f w))))
          one j w h (yes z) =
              rw z
              (ap (member j) (get_or-set_same l v r 0 inside) ∙ member_union set_width (get_or l v 0) (singleton k) j h
              ∙ rw (before j h, member-singleton j k) (set_now (member j (get_or old v 0)) (eqb j k))
              ∙ sym (after j ∙ ap (λ (c : Bool). member j (get_or old v 0) || (eqb j k && c)) q))
          one j w h (no n) = ap (member j) (get_or-set_other l v w r 0 n) ∙ a.sets j w h ∙ same j w n

pub ruleset reached_kit = (added_first, added_end, added_more)

-- ---- every vertex from u on has the bead

all_at : (f : ℕ → Bool) (l : List ℕ) → list_all f l ≡ true → (i : ℕ) → i < length l → f (get_or l i 0) ≡ true
all_at f l e i h = go (f (get_or l i 0)) refl
  where
    go : (b : Bool) → f (get_or l i 0) ≡ b → f (get_or l i 0) ≡ true
    go true z = z
    go false z = let n : true ≡ false = sym e ∙ list_all_at f l i 0 h z in cc

-- the numbers from a on and below b, looked at from the last one down
pub reversed_all : (f : ℕ → Bool) (a b : ℕ) (l : List ℕ) → (a ≤ b) × (b ≤ length l) → list_all f (reverse (take (b - a) (drop a l))) ≡ true
    → (v : ℕ) → a ≤ v → v < b → f (get_or l v 0) ≡ true
reversed_all f a b l inside y v h k =
    let w : b - a - 1 - (v - a) < length part = omega (arith, size) in
    let there = all_at f (reverse part) y (b - a - 1 - (v - a)) (rw (length-reverse part) w) in
    let back : get_or (reverse part) (b - a - 1 - (v - a)) 0 ≡ get_or l v 0 =
    get_or-reverse part (b - a - 1 - (v - a)) 0 w ∙ ap (λ (i : ℕ). get_or part i 0) (omega (arith, size))
    ∙ get_or-take (b - a) (drop a l) (v - a) 0 (omega arith) ∙ get_or-drop a l (v - a) 0 ∙ ap (λ (i : ℕ). get_or l i 0) (omega arith) in
    ap f (sym back) ∙ there
  where
    part : List ℕ
    part = take (b - a) (drop a l)

    size : length part ≡ b - a
    size = length-take (b - a) (drop a l) ∙ rw (length-drop a l) (min-eq_left (omega arith))

pub all_have : (k u m : ℕ) (prefixes : List ℕ) (r : Bool) → r ≡ list_all (member k) (reverse (take (m - u) (drop u prefixes))) → (u ≤ m) × (m ≤ length prefixes)
    → AllMarked k u m prefixes r
all_have k u m prefixes r e inside = record { marked = λ y v h l. reversed_all (member k) u m prefixes inside (sym e ∙ y) v h l }

-- then nothing is left to add
pub added_all : (f : ℕ → Bool) (k u m : ℕ) (old : List ℕ) (r : Bool) → AllMarked k u m old r → r ≡ true → Added f k u m old old
added_all f k u m old r a e = record { few = λ g. g; sets = λ j v l. sym (go j v (ℕ_discrete j k) (dec_lt v u) (dec_lt v m)) }
  where
    go : (j v : ℕ) → Dec (j ≡ k) → Dec (v < u) → Dec (v < m) → (member j (get_or old v 0) || (eqb j k && (leb u v && (ltb v m && f v)))) ≡ member j (get_or old v 0)
    go j v (yes z) (no h) (yes l) = rw (z, a.marked e v (omega arith) l)
    go j v (yes z) (no h) (no l) =
        ap (λ (c : Bool). member j (get_or old v 0) || (eqb j k && (leb u v && (c && f v)))) (le-ltb v m (omega arith))
        ∙ ap (λ (c : Bool). member j (get_or old v 0) || (eqb j k && c)) (and-false (leb u v)) ∙ ap (λ (c : Bool). member j (get_or old v 0) || c) (and-false (eqb j k)) ∙ or-false _
    go j v (yes z) (yes h) d =
        ap (λ (c : Bool). member j (get_or old v 0) || (eqb j k && (c && (ltb v m && f v)))) (lt-leb u v h)
        ∙ ap (λ (c : Bool). member j (get_or old v 0) || c) (and-false (eqb j k)) ∙ or-false _
    go j v (no n) b d = ap (λ (c : Bool). member j (get_or old v 0) || (c && (leb u v && (ltb v m && f v)))) (ne_eqb j k n) ∙ or-false _

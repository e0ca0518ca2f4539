-- A turn of the walk back: its candidates, the search of its step, and the turn after it.
-- Assumes nothing.
use Prim.Native.Nat.{ℕ, zero, suc, ◌+◌, ◌-◌, ◌*◌, ◌≤◌, ◌<◌}
use mathlib.Core.Path.{◌≡◌, refl, sym, ap, ◌∙◌, subst}
use mathlib.Core.Bool.{Bool, true, false, ◌&&◌}
use mathlib.Core.List.{List}
use native.Mathlib.Decide.{ℕ_discrete}
use native.Mathlib.Nat.{suc-mul, mul-le-mul_right}
use native.Mathlib.Omega.{arith}
use lib.ListN.{length, get_or, set}
use Rattle.sets.specs.Sets.{member, overlaps}
use Rattle.sets.proofs.Bits.{member_empty}
use Rattle.sets.proofs.Laws.{some_below_out}
use Rattle.sets.proofs.Truth.{no_false, false_no, and_r}
use Rattle.necklace.specs.Dag.{Dag}
use Rattle.necklace.specs.Necklace.{Pattern}
use Rattle.necklace.specs.Compute.{holds?, serves?}
use Rattle.necklace.proofs.RowMeaning.{prefixes_member}
use Rattle.log_buffer.specs.Meaning.{log_of, steps_in}
use Rattle.pattern_buffer.specs.Meaning.{beads_in, pattern_of}
use Rattle.rows.specs.Rows.{pivot_at}
use Rattle.starts.specs.Starts.{prefix_at, Earlier}
use Rattle.serving.specs.Serving.{Asked, Served, ServedIf}
use Rattle.prefix_phase.specs.Marked.{Tested, PrefixesMarked}
use Rattle.starts.specs.declared.Lanes.TheVariants.{Own}
use Rattle.prefix_phase.proofs.MarkLaws.{pass_of}
use Rattle.walk_places.specs.Walked.{sought, Walked}
use Rattle.walk_places.specs.Search.{NoneSearch, LastsIn, LastAt, NoneLook, NextStep}
use Rattle.std.specs.Prelude.{Option, Some, None, unwrap_or}
use Rattle.std.proofs.lemmas.Option.{same_Some, none-some}
use Rattle.layout.specs.Layout.{most_beads, most_lanes, most_steps, pivot_places}
use Rattle.walk_places.proofs.WalkLaws.{looked_rest, walked_to, walked_on, walked_down, own_place, next_small, walked_skip, walked_put, walked_along}
use Rattle.walk_turn.specs.declared.Turn.{Turn}
use Rattle.walk_turn.specs.declared.Aim.{Aim}
use Rattle.walk_turn.specs.declared.Opened.{Opened}
use Rattle.walk_turn.specs.Turns.{known_to, TurnIn, Due, Walking, TurnReady, AimAt, AimOf, Begun, NoneServe, FirstServes, Picked, PutDown, turns_left, Next, Settled}

count_is : (pattern : List ℕ) → (pattern_of pattern).count ≡ beads_in pattern
unfolding pattern_of
count_is pattern = refl

-- The marks of all prefixes give those before any bead.
earlier_marked : (G : Dag) (P : Pattern) (n : ℕ) (sets : List ℕ) → PrefixesMarked G P n sets → (k : ℕ) → k ≤ P.count → Earlier G P k n sets
unfolding prefix_at holds?
earlier_marked G P n sets m zero h = record { holds = λ u l. refl }
earlier_marked G P n sets m (suc k) h = record { holds = λ u l. ap (member k) (m.marked u l) ∙ prefixes_member G P u k (omega arith) }

-- ---- a turn becomes ready

-- the bead of a turn, in two ways
last_left : (left : ℕ) → 1 ≤ left → suc (left - 1) ≡ left
last_left left h = omega arith

module _ (G : Dag) (P : Pattern) (n left from to step : ℕ) (pivots : List ℕ) (h : 1 ≤ left) where
  by_bead : Walked G P n left from to step pivots → Walked G P n (suc (left - 1)) from to step pivots
  by_bead w = subst (λ (l : ℕ). Walked G P n l from to step pivots) (sym (last_left left h)) w

  by_left : Walked G P n (suc (left - 1)) from to step pivots → Walked G P n left from to step pivots
  by_left w = subst (λ (l : ℕ). Walked G P n l from to step pivots) (last_left left h) w

module _ (pattern log labels : List ℕ) (n : ℕ) (turn : Turn) (seeds found pivots : List ℕ) (d : Due pattern log labels n turn seeds found pivots) where
  w : Walking pattern log labels n turn seeds found pivots
  w = d.walking

  h : 1 ≤ turn.left
  h = d.some

  bead : turn.left - 1 < (pattern_of pattern).count
  bead = let b = w.beads in let s = h in omega arith

  pub open_few : n ≤ most_steps
  open_few = (w.turn_in h).few

  pub open_bead : turn.left - 1 < most_beads
  open_bead = let p = (w.turn_in h).place in let s = h in omega arith

  pub open_begin : turn.from ≤ n
  open_begin = let s = (w.turn_in h).start in omega arith

  pub open_asked : (sets : List ℕ) → Tested pattern log labels → PrefixesMarked (log_of log labels) (pattern_of pattern) (steps_in log) sets
      → Asked pattern log labels (steps_in log) (turn.left - 1) turn.from sets
  open_asked sets t m = record {
    pass = pass_of pattern log labels t (turn.left - 1) (let c = count_is pattern in let b = bead in omega arith);
    bead = let c = count_is pattern in let b = bead in omega arith;
    steps_are = refl;
    begin = let s = (w.turn_in h).start in let e = d.steps_are in omega arith;
    earlier = earlier_marked (log_of log labels) (pattern_of pattern) (steps_in log) sets m (turn.left - 1) (let b = bead in omega arith);
  }

  -- once its candidates are found it stays as it is
  pub open_going : (to : ℕ) → turn.to ≡ Some to → TurnReady pattern log labels n turn to seeds found pivots
  open_going to e =
      let t : known_to turn ≡ to = ap (λ (o : Option ℕ). unwrap_or o turn.from) e in
      record {
        turn_in = subst (TurnIn n turn) t (w.turn_in h);
        beads = w.beads;
        more = w.more to e;
        served = w.served to e;
        walked = subst (λ (x : ℕ). Walked (log_of log labels) (pattern_of pattern) n turn.left turn.from x turn.step pivots) t w.walked;
      }

  module _ (l : turn.to ≡ None) (seeds' found' : List ℕ) where
    first : turn.step ≡ turn.from
    first = let a = (w.turn_in h).low in let b = w.first l in omega arith

    before : Walked (log_of log labels) (pattern_of pattern) n (suc (turn.left - 1)) turn.from (known_to turn) turn.from pivots
    before =
        subst (λ (s : ℕ). Walked (log_of log labels) (pattern_of pattern) n (suc (turn.left - 1)) turn.from (known_to turn) s pivots) first
        (by_bead (log_of log labels) (pattern_of pattern) n turn.left turn.from (known_to turn) turn.step pivots h w.walked)

    own : (v : ℕ) → turn.from ≤ v → v < n → get_or pivots (pivot_at (turn.left - 1) v) 0 ≡ sought (log_of log labels) (pattern_of pattern) n (turn.left - 1) turn.from v
    own v a b =
        before.places (turn.left - 1) v bead b
        ∙ ap (λ (u : ℕ). sought (log_of log labels) (pattern_of pattern) n (turn.left - 1) u v)
        (looked_rest n (suc (turn.left - 1)) turn.from (known_to turn) turn.from (turn.left - 1) v refl a)

    -- at its first step
    opened : (r : ℕ) → turn.from < r → r ≤ n
        → ((v : ℕ) → turn.from ≤ v → v < n → get_or pivots (pivot_at (turn.left - 1) v) 0 ≡ n → Served pattern log labels n (turn.left - 1) turn.from r seeds' found')
        → TurnReady pattern log labels n turn r seeds' found' pivots
    opened r some inside served = record {
      turn_in = record {
        some = h;
        place = (w.turn_in h).place;
        few = (w.turn_in h).few;
        start = (w.turn_in h).start;
        low = (w.turn_in h).low;
        inside = (w.turn_in h).inside;
        up = omega arith;
        most = inside;
      };
      beads = w.beads;
      more = some;
      served = λ v a b e. served v a b (own v a b ∙ e);
      walked = by_left (log_of log labels) (pattern_of pattern) n turn.left turn.from r turn.step pivots h
          (subst (λ (s : ℕ). Walked (log_of log labels) (pattern_of pattern) n (suc (turn.left - 1)) turn.from r s pivots) (sym first)
          (walked_to (log_of log labels) (pattern_of pattern) n (turn.left - 1) bead turn.from (known_to turn) r pivots (w.turn_in h).up (omega arith) before));
    }

    pub open_done : (b : Bool) → NoneSearch (turn.left - 1) turn.from n pivots b → b ≡ true → TurnReady pattern log labels n turn n seeds' found' pivots
    open_done b d e = opened n (w.turn_in h).start (omega arith) (λ v a l z. absurd (d.found e v a l z))

    pub open_made : (r : ℕ) → ServedIf Own pattern log labels (steps_in log) (turn.left - 1) turn.from r seeds' found' → TurnReady pattern log labels n turn r seeds' found' pivots
    open_made r i =
        let s : Served pattern log labels n (turn.left - 1) turn.from r seeds' found' =
        subst (λ (m : ℕ). Served pattern log labels m (turn.left - 1) turn.from r seeds' found') (sym d.steps_are) (i.each refl) in
        opened r s.some s.inside (λ v a l z. s)

  pub open_lasts : LastsIn turn.left n pivots
  open_lasts = record {
    inside = λ v l.
        let s = next_small (log_of log labels) (pattern_of pattern) n (turn.left - 1) bead turn.from (known_to turn) turn.step v l pivots
        (by_bead (log_of log labels) (pattern_of pattern) n turn.left turn.from (known_to turn) turn.step pivots h w.walked) in
        let e : get_or pivots (pivot_at (suc (turn.left - 1)) v) 0 ≡ get_or pivots (pivot_at turn.left v) 0 = ap (λ (x : ℕ). get_or pivots (pivot_at x v) 0) (last_left turn.left h) in
        let f = (w.turn_in h).few in
        omega arith;
  }

-- ---- what is aimed at

module _ (n : ℕ) (turn : Turn) (to : ℕ) (i : TurnIn n turn to) where
  pub in_some : 1 ≤ turn.left
  in_some = i.some

pub aim_some : (n : ℕ) (turn : Turn) (found pivots : List ℕ) (r : Option ℕ) (step p : ℕ) → NextStep turn.left n found pivots turn.step r → r ≡ Some step
    → LastAt turn.left pivots step p → AimOf n turn found pivots (Some (record { step = step; pivot = p }))
aim_some n turn found pivots r step p x e l = record {
  some = λ a z. subst (AimAt n turn found pivots) (same_Some _ _ z) (record { next = x.some step e; pivot = l.is; inside = l.small });
  none = λ z. absurd (none-some _ (sym z));
}

pub aim_none : (n : ℕ) (turn : Turn) (found pivots : List ℕ) (r : Option ℕ) → NextStep turn.left n found pivots turn.step r → r ≡ None → AimOf n turn found pivots None
aim_none n turn found pivots r x e = record { some = λ a z. absurd (none-some _ z); none = λ z. x.none e }

pub aim_inside : (left n : ℕ) (found pivots : List ℕ) (v : ℕ) (r : Option ℕ) (step : ℕ) → NextStep left n found pivots v r → r ≡ Some step → step < n
aim_inside left n found pivots v r step x e = (x.some step e).inside

pub ruleset aim_kit = (aim_some, aim_none, aim_inside)

-- ---- its place

pub put_some : (turn : Turn) (step u : ℕ) (picked : Option ℕ) (old : List ℕ) → picked ≡ Some u → PutDown turn step picked old (set old (most_steps * (turn.left - 1) + step) u)
put_some turn step u picked old e = record {
  some = λ w z. ap (set old (most_steps * (turn.left - 1) + step)) (same_Some _ _ (sym e ∙ z));
  none = λ z. absurd (none-some _ (sym z ∙ e));
}

pub put_none : (turn : Turn) (step : ℕ) (picked : Option ℕ) (old : List ℕ) → picked ≡ None → PutDown turn step picked old old
put_none turn step picked old e = record { some = λ w z. absurd (none-some _ (sym e ∙ z)); none = λ z. refl }

pub ruleset put_kit = (put_some, put_none)

-- no lane begins at u and reaches p, if none reaches it
none_overlaps : (s t : ℕ) → t ≡ 0 → overlaps most_lanes s t ≡ false
none_overlaps s t e =
    ap (overlaps most_lanes s) e
    ∙ no_false (overlaps most_lanes s 0)
    (λ y. let i = some_below_out most_lanes (λ i. member i s && member i 0) y in
    false_no (member i.0 0) (member_empty i.0) (and_r (member i.0 s) (member i.0 0) i.2))

module _ (pattern log labels : List ℕ) (n : ℕ) (turn : Turn) (to : ℕ) (seeds found pivots : List ℕ) (r : TurnReady pattern log labels n turn to seeds found pivots) where
  abbrev G : Dag
  G = log_of log labels

  abbrev P : Pattern
  P = pattern_of pattern

  -- its bead
  abbrev k : ℕ
  k = turn.left - 1

  bead_in : k < P.count
  bead_in = let b = r.beads in let s = r.turn_in.some in omega arith

  left : suc k ≡ turn.left
  left = last_left turn.left r.turn_in.some

  stands : Walked G P n (suc k) turn.from to turn.step pivots
  stands = by_bead G P n turn.left turn.from to turn.step pivots r.turn_in.some r.walked

  -- the search of a vertex that is reached in the turn
  module _ (v : ℕ) (low : turn.from ≤ v) (inside : v < n) (w : Walked G P n (suc k) turn.from to v pivots) where
    last_in : get_or pivots (pivot_at (suc k) v) 0 < n
    last_in = next_small G P n k bead_in turn.from to v v inside pivots w

    last_is : get_or pivots (pivot_at (suc k) v) 0 ≡ get_or pivots (pivot_at turn.left v) 0
    last_is = ap (λ (l : ℕ). get_or pivots (pivot_at l v) 0) left

    serve : get_or pivots (pivot_at k v) 0 ≡ n → Served pattern log labels n k turn.from to seeds found
    serve e = r.served v low inside (sym (own_place G P n k bead_in turn.from to v r.turn_in.up r.turn_in.most inside r.turn_in.few pivots w) ∙ e)

    -- what the lanes say of a candidate
    serves_is : get_or pivots (pivot_at k v) 0 ≡ n → (u p : ℕ) → p ≡ get_or pivots (pivot_at turn.left v) 0 → turn.from ≤ u → u < to
        → overlaps most_lanes (get_or seeds u 0) (get_or found p 0) ≡ serves? G P k (get_or pivots (pivot_at (suc k) v) 0) u
    serves_is e u p ep a b =
        let q : p ≡ get_or pivots (pivot_at (suc k) v) 0 = ep ∙ sym last_is in
        (serve e).serves u p a b (let l = last_in in omega arith) ∙ ap (λ (t : ℕ). serves? G P k t u) q

    -- none serves before a pivot that no lane reaches
    serves_none : get_or found (get_or pivots (pivot_at turn.left v) 0) 0 ≡ 0 → get_or pivots (pivot_at k v) 0 ≡ n → (u : ℕ) → turn.from ≤ u → u < to
        → serves? G P k (get_or pivots (pivot_at (suc k) v) 0) u ≡ false
    serves_none z e u a b =
        sym (serves_is e u (get_or pivots (pivot_at turn.left v) 0) refl a b) ∙ none_overlaps (get_or seeds u 0) (get_or found (get_or pivots (pivot_at turn.left v) 0) 0) z

  -- up to a step before which no one has something to look for
  along : (step : ℕ) → turn.step ≤ step → step ≤ n → NoneLook turn.left n found pivots turn.step step → Walked G P n (suc k) turn.from to step pivots
  along step l m none =
      let e : turn.step + (step - turn.step) ≡ step = omega arith in
      subst (λ (x : ℕ). Walked G P n (suc k) turn.from to x pivots) e
      (walked_along G P n k bead_in turn.from to (step - turn.step) turn.step r.turn_in.up r.turn_in.most r.turn_in.few (omega arith) pivots stands
      (λ w f g s z. let b = r.turn_in.low in serves_none w (omega arith) (omega arith) s (none.none w f (omega arith) z) z))

  -- no step is aimed at
  passed_all : NoneLook turn.left n found pivots turn.step n → Walked G P n turn.left turn.from to n pivots
  passed_all none =
      by_left G P n turn.left turn.from to n pivots r.turn_in.some (along n (let a = r.turn_in.inside in omega arith) (omega arith) none)

  -- a step is aimed at
  module _ (aim : Aim) (a : AimAt n turn found pivots aim) (picked : Option ℕ) (pick : Picked seeds found aim.pivot turn.from to picked) (new : List ℕ)
      (down : PutDown turn aim.step picked pivots new) (long : pivot_places ≤ length pivots) where
    stands_at : Walked G P n (suc k) turn.from to aim.step pivots
    stands_at = along aim.step a.next.low (let i = a.next.inside in omega arith) a.next.before

    low : turn.from ≤ aim.step
    low = let b = r.turn_in.low in let c = a.next.low in omega arith

    passed : Walked G P n turn.left turn.from to (aim.step + 1) new
    passed = by_left G P n turn.left turn.from to (aim.step + 1) new r.turn_in.some (go picked refl)
      where
        go : (q : Option ℕ) → picked ≡ q → Walked G P n (suc k) turn.from to (aim.step + 1) new
        go None e =
            let none = pick.none e in
            subst (λ (l : List ℕ). Walked G P n (suc k) turn.from to (aim.step + 1) l) (sym (down.none e))
            (walked_skip G P n k bead_in turn.from to aim.step r.turn_in.up r.turn_in.most a.next.inside r.turn_in.few pivots stands_at
            (λ e w x y. sym (serves_is aim.step low a.next.inside stands_at e w aim.pivot a.pivot x y) ∙ none.none w x y))
        go (Some u) e =
            let f = pick.some u e in
            let h = f.high in
            subst (λ (x : List ℕ). Walked G P n (suc k) turn.from to (aim.step + 1) x) (sym (down.some u e))
            (walked_put G P n k bead_in turn.from to aim.step r.turn_in.up r.turn_in.most a.next.inside r.turn_in.few pivots stands_at u a.next.search f.low h
            (sym (serves_is aim.step low a.next.inside stands_at a.next.search u aim.pivot a.pivot f.low h) ∙ f.serves)
            (λ w x y. sym (serves_is aim.step low a.next.inside stands_at a.next.search w aim.pivot a.pivot x (omega arith)) ∙ f.before.none w x y)
            (let x = r.turn_in.place in let y = r.turn_in.some in let z = r.turn_in.few in let i = a.next.inside in omega arith))

-- aim is taken in a turn that is ready
pub begins : (pattern log labels : List ℕ) (n : ℕ) (turn : Turn) (to : ℕ) (aim : Option Aim) (seeds found pivots : List ℕ) → TurnReady pattern log labels n turn to seeds found pivots
    → AimOf n turn found pivots aim → Begun pattern log labels n turn (record { to = to; aim = aim }) seeds found pivots
begins pattern log labels n turn to aim seeds found pivots r a = record { aimed = a; ready = r }

module _ (pattern log labels : List ℕ) (n : ℕ) (turn : Turn) (opened : Opened) (seeds found pivots : List ℕ) (b : Begun pattern log labels n turn opened seeds found pivots) where
  pub begun_more : turn.from < opened.to
  begun_more = b.ready.more

  pub begun_in : TurnIn n turn opened.to
  begun_in = b.ready.turn_in

  pub begun_aim : AimOf n turn found pivots opened.aim
  begun_aim = b.aimed

  module _ (new : List ℕ) (next : Turn) (s : Settled n turn opened seeds found pivots new next) (long : pivot_places ≤ length pivots) where
    -- the turn after it
    goes_on : (after : ℕ) → Next n turn opened.to after next → Walked (log_of log labels) (pattern_of pattern) n turn.left turn.from opened.to after new
        → Walking pattern log labels n next seeds found new
    goes_on after x w = record {
      beads = let a = x.beads in let c = b.ready.beads in omega arith;
      turn_in = x.turn_in;
      first = x.first;
      more = λ t e. let s = x.same t e in let a = s.0 in let f = s.2 in let m = b.ready.more in omega arith;
      served = λ t e. let s = x.same t e in rw (s.0, s.1, s.2) b.ready.served;
      walked = x.walked (log_of log labels) (pattern_of pattern) new b.ready.beads w;
    }

    pub walks_on : Walking pattern log labels n next seeds found new
    walks_on = go opened.aim refl
      where
        go : (q : Option Aim) → opened.aim ≡ q → Walking pattern log labels n next seeds found new
        go None e =
            let t = s.none e in
            goes_on n t.1
            (subst (λ (l : List ℕ). Walked (log_of log labels) (pattern_of pattern) n turn.left turn.from opened.to n l) (sym t.0)
            (passed_all pattern log labels n turn opened.to seeds found pivots b.ready (b.aimed.none e)))
        go (Some a) e =
            let t = s.some a e in
            goes_on (a.step + 1) t.after (passed pattern log labels n turn opened.to seeds found pivots b.ready a (b.aimed.some a e) t.picked t.pick new t.down long)

-- ---- the search

module _ (seeds found : List ℕ) (p from : ℕ) where
  pub seek_none : NoneServe seeds found p from from
  seek_none = record { none = λ w a l. absurd (omega arith) }

  module _ (u : ℕ) (s : NoneServe seeds found p from u) where
    pub seek_on : (b : Bool) → b ≡ overlaps most_lanes (get_or seeds u 0) (get_or found p 0) → b ≡ false → NoneServe seeds found p from (u + 1)
    seek_on b e f = record { none = λ w a l. go w a l (ℕ_discrete w u) }
      where
        go : (w : ℕ) → from ≤ w → w < u + 1 → Dec (w ≡ u) → overlaps most_lanes (get_or seeds w 0) (get_or found p 0) ≡ false
        go w a l (yes z) = rw z (sym e ∙ f)
        go w a l (no z) = s.none w a (omega arith)

    pub seek_found : (to : ℕ) (b : Bool) → b ≡ overlaps most_lanes (get_or seeds u 0) (get_or found p 0) → b ≡ true → from ≤ u → u < to → Picked seeds found p from to (Some u)
    seek_found to b e f low high = record {
      some = λ w z. subst (FirstServes seeds found p from to) (same_Some _ _ z) (record { low = low; high = high; serves = sym e ∙ f; before = s });
      none = λ z. absurd (none-some _ (sym z));
    }

    pub seek_end : (to : ℕ) → to ≤ u → Picked seeds found p from to None
    seek_end to h = record { some = λ w z. absurd (none-some _ z); none = λ z. record { none = λ w a l. s.none w a (omega arith) } }

pub ruleset seek_kit = (seek_none, seek_on, seek_found, seek_end)

-- ---- from turn to turn

module _ (n : ℕ) (turn : Turn) (to after : ℕ) (more : turn.from < to) (up : turn.step < after) (i : TurnIn n turn to) where
  pub next_step : after < n → Next n turn to after (record { left = turn.left; from = turn.from; to = Some to; step = after })
  unfolding turns_left
  next_step h = record {
    fewer = let a = i.inside in omega arith;
    beads = omega arith;
    turn_in = λ l. record {
      some = i.some;
      place = i.place;
      few = i.few;
      start = i.start;
      low = let a = i.low in omega arith;
      inside = h;
      up = i.up;
      most = i.most;
    };
    first = λ e. absurd (none-some _ (sym e));
    same = λ t e. (sym (same_Some _ _ e), refl, refl);
    walked = λ G P pivots b w. w;
  }

  -- fewer turns are left, whatever the step
  lessens : (m m' s s' : ℕ) → m' < m → s' ≤ n → m' * suc n + s' < m * suc n + s
  lessens m m' s s' h l =
      let q : suc m' * suc n ≤ m * suc n = mul-le-mul_right (suc n) h in
      let r = suc-mul m' (suc n) in
      omega arith

  pub next_candidates : n ≤ after → to < n → Next n turn to after (record { left = turn.left; from = to; to = None; step = to })
  unfolding turns_left
  next_candidates h l = record {
    fewer = lessens (turn.left * suc n + (n - turn.from)) (turn.left * suc n + (n - to)) (n - turn.step) (n - to) (omega arith) (omega arith);
    beads = omega arith;
    turn_in = λ b. record {
      some = i.some;
      place = i.place;
      few = i.few;
      start = l;
      low = omega arith;
      inside = l;
      up = omega arith;
      most = i.most;
    };
    first = λ e. omega arith;
    same = λ t e. absurd (none-some _ e);
    walked = λ G P pivots b w.
        by_left G P n turn.left to to to pivots i.some
        (walked_on G P n (turn.left - 1) (let s = i.some in omega arith) turn.from to after pivots h
        (by_bead G P n turn.left turn.from to after pivots i.some w));
  }

  pub next_bead : n ≤ after → n ≤ to → Next n turn to after (record { left = turn.left - 1; from = 0; to = None; step = 0 })
  unfolding turns_left
  next_bead h l = record {
    fewer = lessens (turn.left * suc n + (n - turn.from)) ((turn.left - 1) * suc n + (n - 0)) (n - turn.step) (n - 0) fewer (omega arith);
    beads = omega arith;
    turn_in = λ b. record {
      some = b;
      place = let p = i.place in omega arith;
      few = i.few;
      start = let s = i.start in omega arith;
      low = omega arith;
      inside = let s = i.start in omega arith;
      up = omega arith;
      most = omega arith;
    };
    first = λ e. omega arith;
    same = λ t e. absurd (none-some _ e);
    walked = λ G P pivots b w.
        walked_down G P n (turn.left - 1) (let s = i.some in omega arith) turn.from 0 after pivots h
        (subst (λ (t : ℕ). Walked G P n (suc (turn.left - 1)) turn.from t after pivots) all
        (by_bead G P n turn.left turn.from to after pivots i.some w));
  }
    where
      all : to ≡ n
      all = let m = i.most in omega arith

      fewer : (turn.left - 1) * suc n + (n - 0) < turn.left * suc n + (n - turn.from)
      fewer =
          let s = i.some in
          let q : turn.left * suc n ≡ suc (turn.left - 1) * suc n = ap (λ (x : ℕ). x * suc n) (sym (last_left turn.left s)) in
          let r = suc-mul (turn.left - 1) (suc n) in
          omega arith

pub ruleset next_kit = (in_some, next_step)

-- What a pass from candidates says: which of them serve before which steps.
use Prim.Native.Nat.{ℕ, zero, suc, ◌≤◌, ◌<◌, min}
use mathlib.Core.Path.{◌≡◌, refl, sym, ap, ◌∙◌, subst}
use mathlib.Core.Bool.{Bool, true, false, not, ◌&&◌}
use mathlib.Core.List.{List}
use native.Mathlib.Decide.{ℕ_discrete, dec_lt}
use native.Mathlib.Omega.{arith}
use borrow.Author.Tests.{ne_eqb}
use lib.Dec.{T, eqb, ltb, leb, leb→le, ltb→lt, le→leb, lt→ltb}
use lib.ListN.{get_or}
use Rattle.pattern_buffer.proofs.Meaning.{by_all}
use Rattle.lists.specs.Places.{at}
use Rattle.sets.specs.Sets.{member, overlaps, some_below}
use Rattle.sets.proofs.Bits.{member_empty}
use Rattle.sets.proofs.Laws.{member-set_of, no_member, set_of_above, some_below_out, some_below_in}
use Rattle.sets.proofs.Truth.{same, and_i, and_l, and_r, false_no, true_yes}
use Rattle.necklace.specs.Dag.{Dag, WellFormed}
use Rattle.necklace.specs.Automaton.{Automaton}
use Rattle.necklace.specs.Necklace.{Modality, SOME, Pattern}
use Rattle.necklace.specs.Compute.{holds?, serves?, some?, satisfies?, satisfies_by?}
use Rattle.layout.specs.Layout.{rule_at, most_lanes}
use Rattle.pattern_buffer.specs.Meaning.{labels_in, automaton_of, pattern_of, modality_of}
use Rattle.log_buffer.specs.Meaning.{steps_in, log_of}
use Rattle.necklace.specs.inner.Forward.{reaches?}
use Rattle.necklace.proofs.Agrees.{reaches_some, reaches_one, reaches_from}
use Rattle.entering.proofs.EnterLaws.{next_within}
use Rattle.pass_steps.specs.PassSteps.{starts_in, bead_reaches, lane_reaches}
use Rattle.passes.specs.Passes.{Found}
use Rattle.starts.specs.declared.Starts.{Starts}
use Rattle.starts.specs.declared.Lanes.{Lanes}
use Rattle.starts.specs.declared.Lanes.TheVariants.{Shared, Own}
use Rattle.starts.specs.Starts.{prefix_at, Apart, StartsOf, ApartIf}
use Rattle.marking.specs.Marking.{found_at}
use Rattle.serving.specs.Serving.{Asked, serves_in, FoundIn, Served, ServedIf, LanesFor}

module _ (pattern log labels : List ℕ) (n k from : ℕ) (prefixes : List ℕ) (ask : Asked pattern log labels n k from prefixes) (seeds : List ℕ) (starts : Starts)
    (of : StartsOf (prefix_at prefixes k) from n starts seeds) (found : List ℕ) (pass : Found pattern log labels k seeds starts.first starts.until found) where
  abbrev G : Dag
  G = log_of log labels

  abbrev P : Pattern
  P = pattern_of pattern

  abbrev A : Automaton
  A = automaton_of pattern k

  abbrev S : ℕ → ℕ → Bool
  S i = starts_in seeds starts.first starts.until i

  abbrev m : Modality
  m = (P.bead k).modality

  g : WellFormed (labels_in pattern) G
  g = ask.pass.well_formed

  -- ---- where a lane begins

  begins : (i u : ℕ) → from ≤ u → u < starts.to → T (member i (get_or seeds u 0)) → T (S i u)
  unfolding starts_in
  begins i u h l t =
      let b = of.between i u h l t in
      and_i (leb starts.first u) (ltb u starts.until && member i (get_or seeds u 0)) (le→leb starts.first u b.0)
      (and_i (ltb u starts.until) (member i (get_or seeds u 0)) (lt→ltb u starts.until b.1) t)

  -- a step where a lane begins is a candidate, and has it
  pub record Begun (i u : ℕ) : Type 0 where
    pub low : from ≤ u
    pub high : u < starts.to
    pub has : T (member i (get_or seeds u 0))

  begun : (i u : ℕ) → T (S i u) → Begun i u
  unfolding starts_in
  begun i u t =
      let rest = and_r (leb starts.first u) (ltb u starts.until && member i (get_or seeds u 0)) t in
      let a = leb→le starts.first u (and_l (leb starts.first u) (ltb u starts.until && member i (get_or seeds u 0)) t) in
      let b = ltb→lt u starts.until (and_l (ltb u starts.until) (member i (get_or seeds u 0)) rest) in
      let c = of.begin in
      let d = of.end in
      record { low = omega arith; high = omega arith; has = and_r (ltb u starts.until) (member i (get_or seeds u 0)) rest }

  held : (i u : ℕ) → T (S i u) → T (holds? G P k u)
  held i u t =
      let b = begun i u t in
      let h = b.high in
      let l = of.inside in
      let e = ask.steps_are in
      subst T (ask.earlier.holds u (omega arith)) (of.seeded.only i u b.low b.high b.has)

  lane_of : (u : ℕ) → from ≤ u → u < starts.to → T (holds? G P k u) → (i : ℕ) × (i < most_lanes) × T (member i (get_or seeds u 0))
  lane_of u h l t =
      let e = ask.steps_are in
      let b = of.inside in
      of.seeded.covers u h l (subst T (sym (ask.earlier.holds u (omega arith))) t)

  -- ---- what is found

  reached_out : (v i : ℕ) → v < n → i < most_lanes → T (member i (get_or found v 0)) → T (lane_reaches pattern log labels k seeds starts.first starts.until v i)
  reached_out v i l h t =
      let e = ask.steps_are in
      subst T (ap (member i) (pass.lanes v (omega arith)) ∙ member-set_of most_lanes (lane_reaches pattern log labels k seeds starts.first starts.until v) i h) t

  reached_in : (v i : ℕ) → v < n → i < most_lanes → T (lane_reaches pattern log labels k seeds starts.first starts.until v i) → T (member i (get_or found v 0))
  reached_in v i l h t =
      let e = ask.steps_are in
      subst T (sym (ap (member i) (pass.lanes v (omega arith)) ∙ member-set_of most_lanes (lane_reaches pattern log labels k seeds starts.first starts.until v) i h)) t

  lane_small : (v i : ℕ) → v < n → T (member i (get_or found v 0)) → i < most_lanes
  lane_small v i l t = go (dec i)
    where
      use' : most_lanes ≤ i → ⊥
      use' h = let e = ask.steps_are in
          set_of_above most_lanes (lane_reaches pattern log labels k seeds starts.first starts.until v) i h (subst (λ (s : ℕ). T (member i s)) (pass.lanes v (omega arith)) t)

      dec : (i : ℕ) → Dec (i < most_lanes)
      dec i = dec_lt i most_lanes

      go : Dec (i < most_lanes) → i < most_lanes
      go (yes h) = h
      go (no h) = absurd (use' (omega arith))

  found_out : (v : ℕ) → T (found_at found v) → v < n → (i : ℕ) × (i < most_lanes) × T (member i (get_or found v 0))
  unfolding found_at
  found_out v t l = go (some_below most_lanes (λ i. member i (get_or found v 0))) refl
    where
      go : (b : Bool) → some_below most_lanes (λ i. member i (get_or found v 0)) ≡ b → (i : ℕ) × (i < most_lanes) × T (member i (get_or found v 0))
      go true e = some_below_out most_lanes (λ i. member i (get_or found v 0)) (true_yes (some_below most_lanes (λ i. member i (get_or found v 0))) e)
      go false e =
          let z : get_or found v 0 ≡ 0 = no_member (get_or found v 0) (λ i y. false_no (some_below most_lanes (λ i. member i (get_or found v 0))) e
          (some_below_in most_lanes (λ i. member i (get_or found v 0)) i (lane_small v i l y) y)) in
          absurd (subst (λ (s : ℕ). T (not (eqb s 0))) z t)

  found_in : (v i : ℕ) → T (member i (get_or found v 0)) → T (found_at found v)
  unfolding found_at
  found_in v i t = go (get_or found v 0) t
    where
      go : (s : ℕ) → T (member i s) → T (not (eqb s 0))
      go zero y = absurd (false_no (member i 0) (member_empty i) y)
      go (suc s) y = true_yes (not (eqb (suc s) 0)) (ap not (ne_eqb (suc s) 0 (λ e. absurd (omega arith))))

  -- What lanes have to say: from a step where it begins a lane reaches v if the bead holds; and a lane that reaches v begins where the bead holds.
  pub record Telling : Type 0 where
    pub there : (i u v : ℕ) → u ≤ v → T (S i u) → T (satisfies? G (P.bead k) u v) → T (lane_reaches pattern log labels k seeds starts.first starts.until v i)
    pub back : (i v : ℕ) → T (lane_reaches pattern log labels k seeds starts.first starts.until v i) → (u : ℕ) × (u ≤ v) × T (S i u) × T (satisfies? G (P.bead k) u v)

  -- a SOME bead: all candidates may share a lane
  pub telling_some : (at pattern (rule_at k) ≡ 2 → ⊥) → Telling
  unfolding pattern_of lane_reaches bead_reaches
  telling_some rule = record { there = there; back = back }
    where
      is : modality_of (at pattern (rule_at k)) ≡ SOME
      is = by_all (at pattern (rule_at k)) ∙ rw (ne_eqb (at pattern (rule_at k)) 2 rule)

      there : (i u v : ℕ) → u ≤ v → T (S i u) → T (satisfies_by? (modality_of (at pattern (rule_at k))) G A u v) → T (reaches? (modality_of (at pattern (rule_at k))) G A (S i) v)
      there i u v h s t =
          subst (λ (m : Modality). T (reaches? m G A (S i) v)) (sym is)
          (subst T (sym (reaches_some g A (next_within pattern k) (S i) v))
          (some_below_in (suc v) (λ u. S i u && some? G A u v) u (omega arith) (and_i (S i u) (some? G A u v) s (subst (λ (m : Modality). T (satisfies_by? m G A u v)) is t))))

      back : (i v : ℕ) → T (reaches? (modality_of (at pattern (rule_at k))) G A (S i) v) → (u : ℕ) × (u ≤ v) × T (S i u) × T (satisfies_by? (modality_of (at pattern (rule_at k))) G A u v)
      back i v t =
          let r = some_below_out (suc v) (λ u. S i u && some? G A u v) (subst T (reaches_some g A (next_within pattern k) (S i) v) (subst (λ (m : Modality). T (reaches? m G A (S i) v)) is t)) in
          let h = r.1 in
          (r.0, omega arith, and_l (S i r.0) (some? G A r.0 v) r.2, subst (λ (m : Modality). T (satisfies_by? m G A r.0 v)) (sym is) (and_r (S i r.0) (some? G A r.0 v) r.2))

  module _ (apart : Apart from starts.to seeds) where
    alone : (i u : ℕ) → T (S i u) → (w : ℕ) → T (S i w) → w ≡ u
    alone i u t w s =
        let a = begun i u t in
        let b = begun i w s in
        apart.one i w u b.low b.high a.low a.high b.has a.has

    -- a lane that begins at u alone reaches just what the bead holds on from u
    lane_is : (i u v : ℕ) → T (S i u) → lane_reaches pattern log labels k seeds starts.first starts.until v i ≡ satisfies? G (P.bead k) u v
    unfolding pattern_of lane_reaches bead_reaches
    lane_is i u v t = reaches_one g A (next_within pattern k) (S i) (P.bead k).modality u v t (alone i u t)

    from_where : (i v : ℕ) → T (lane_reaches pattern log labels k seeds starts.first starts.until v i) → (u : ℕ) × (u ≤ v) × T (S i u)
    unfolding lane_reaches bead_reaches
    from_where i v t = reaches_from G A (S i) (P.bead k).modality v t

    pub telling_apart : Telling
    telling_apart = record { there = λ i u v h s t. subst T (sym (lane_is i u v s)) t; back = back }
      where
        back : (i v : ℕ) → T (lane_reaches pattern log labels k seeds starts.first starts.until v i) → (u : ℕ) × (u ≤ v) × T (S i u) × T (satisfies? G (P.bead k) u v)
        back i v t = let r = from_where i v t in (r.0, r.1, r.2, subst T (lane_is i r.0 v r.2) t)

    -- ---- which candidate serves

    serves_is : (u p : ℕ) → from ≤ u → u < starts.to → p < n → overlaps most_lanes (get_or seeds u 0) (get_or found p 0) ≡ serves? G P k p u
    serves_is u p h l w = same (overlaps most_lanes (get_or seeds u 0) (get_or found p 0)) (serves? G P k p u) forth back
      where
        forth : T (overlaps most_lanes (get_or seeds u 0) (get_or found p 0)) → T (serves? G P k p u)
        forth t =
            let r = some_below_out most_lanes (λ i. member i (get_or seeds u 0) && member i (get_or found p 0)) t in
            let s = begins r.0 u h l (and_l (member r.0 (get_or seeds u 0)) (member r.0 (get_or found p 0)) r.2) in
            let f = reached_out p r.0 w r.1 (and_r (member r.0 (get_or seeds u 0)) (member r.0 (get_or found p 0)) r.2) in
            and_i (holds? G P k u) (satisfies? G (P.bead k) u p) (held r.0 u s) (subst T (lane_is r.0 u p s) f)

        back : T (serves? G P k p u) → T (overlaps most_lanes (get_or seeds u 0) (get_or found p 0))
        back t =
            let i = lane_of u h l (and_l (holds? G P k u) (satisfies? G (P.bead k) u p) t) in
            let s = begins i.0 u h l i.2 in
            some_below_in most_lanes (λ i. member i (get_or seeds u 0) && member i (get_or found p 0)) i.0 i.1
            (and_i (member i.0 (get_or seeds u 0)) (member i.0 (get_or found p 0)) i.2
            (reached_in p i.0 w i.1 (subst T (sym (lane_is i.0 u p s)) (and_r (holds? G P k u) (satisfies? G (P.bead k) u p) t))))

    pub served : (to : ℕ) → to ≡ starts.to → Served pattern log labels n k from to seeds found
    served to e = let a = of.some in let b = of.inside in
        record { some = omega arith; inside = omega arith; serves = λ u p h l w. serves_is u p h (omega arith) w }

  -- ---- whether some candidate serves

  module _ (tell : Telling) where
    found_is : (v : ℕ) → v < n → found_at found v ≡ serves_in G P k from starts.to v
    unfolding serves_in
    found_is v l = same (found_at found v) (some_below (min starts.to (suc v)) (λ u. leb from u && serves? G P k v u)) forth back
      where
        forth : T (found_at found v) → T (some_below (min starts.to (suc v)) (λ u. leb from u && serves? G P k v u))
        forth t =
            let i = found_out v t l in
            let u = tell.back i.0 v (reached_out v i.0 l i.1 i.2) in
            let b = begun i.0 u.0 u.2 in
            let h = b.high in
            let w = u.1 in
            some_below_in (min starts.to (suc v)) (λ u. leb from u && serves? G P k v u) u.0 (omega arith)
            (and_i (leb from u.0) (serves? G P k v u.0) (le→leb from u.0 b.low) (and_i (holds? G P k u.0) (satisfies? G (P.bead k) u.0 v) (held i.0 u.0 u.2) u.3))

        back : T (some_below (min starts.to (suc v)) (λ u. leb from u && serves? G P k v u)) → T (found_at found v)
        back t =
            let u = some_below_out (min starts.to (suc v)) (λ u. leb from u && serves? G P k v u) t in
            let w = u.1 in
            let h = leb→le from u.0 (and_l (leb from u.0) (serves? G P k v u.0) u.2) in
            let s = and_r (leb from u.0) (serves? G P k v u.0) u.2 in
            let i = lane_of u.0 h (omega arith) (and_l (holds? G P k u.0) (satisfies? G (P.bead k) u.0 v) s) in
            found_in v i.0
            (reached_in v i.0 l i.1
            (tell.there i.0 u.0 v (omega arith) (begins i.0 u.0 h (omega arith) i.2) (and_r (holds? G P k u.0) (satisfies? G (P.bead k) u.0 v) s)))

    found_in_is : (to : ℕ) → to ≡ starts.to → FoundIn pattern log labels n k from to found
    found_in_is to e = let a = of.some in let b = of.inside in
        record { some = omega arith; inside = omega arith; served = λ v l. rw e (found_is v l) }

  module _ (lanes : Lanes) (each : ApartIf lanes from starts.to seeds) where
    pub found_by : LanesFor pattern k lanes → FoundIn pattern log labels n k from starts.to found
    found_by a = go (ℕ_discrete (at pattern (rule_at k)) 2)
      where
        go : Dec (at pattern (rule_at k) ≡ 2) → FoundIn pattern log labels n k from starts.to found
        go (yes e) = found_in_is (telling_apart (each.apart (a.all e))) starts.to refl
        go (no e) = found_in_is (telling_some e) starts.to refl

    pub served_by : ServedIf lanes pattern log labels n k from starts.to seeds found
    served_by = record { each = λ e. served (each.apart e) starts.to refl }

-- ---- how lanes are given

pub lanes_all : (pattern : List ℕ) (k : ℕ) → LanesFor pattern k Own
lanes_all pattern k = record { all = λ e. refl }

pub lanes_some : (pattern : List ℕ) (k : ℕ) → (at pattern (rule_at k) ≡ 2 → ⊥) → LanesFor pattern k Shared
lanes_some pattern k n = record { all = λ e. absurd (n e) }

pub ruleset lanes_kit = (lanes_all, lanes_some)

-- ---- where the starting steps end

module _ (pattern log labels : List ℕ) (n k from : ℕ) (prefixes : List ℕ) (ask : Asked pattern log labels n k from prefixes) where
  pub asked_until : (f : ℕ → Bool) (starts : Starts) (seeds : List ℕ) → StartsOf f from n starts seeds → starts.until ≤ steps_in log
  asked_until f starts seeds of = let e = ask.steps_are in let a = of.inside in let b = of.end in omega arith

-- ---- the pass that is made: of the bead at a place, over the steps of the log

module _ (pattern log labels : List ℕ) (k from : ℕ) (prefixes : List ℕ) (ask : Asked pattern log labels (steps_in log) k from prefixes) (n : ℕ) (steps : n ≡ steps_in log) (seeds : List ℕ)
    (starts : Starts) (chosen : StartsOf (prefix_at prefixes k) from n starts seeds) (bead : List ℕ) (place : ℕ) (same : (bead ≡ pattern) × (place ≡ k)) (found : List ℕ)
    (passed : Found bead log labels place seeds starts.first starts.until found) (lanes : Lanes) (each : ApartIf lanes from starts.to seeds) where
  of : StartsOf (prefix_at prefixes k) from (steps_in log) starts seeds
  of = rw steps at chosen

  pass : Found pattern log labels k seeds starts.first starts.until found
  pass = rw (same.0, same.1) at passed

  pub found_from : LanesFor pattern k lanes → FoundIn pattern log labels (steps_in log) k from starts.to found
  found_from a = found_by pattern log labels (steps_in log) k from prefixes ask seeds starts of found pass lanes each a

  pub served_from : ServedIf lanes pattern log labels (steps_in log) k from starts.to seeds found
  served_from = served_by pattern log labels (steps_in log) k from prefixes ask seeds starts of found pass lanes each

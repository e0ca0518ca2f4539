-- The pass: how it begins, and that no later step is reached once it ends.
use Prim.Native.Nat.{ℕ, zero, suc, ◌-◌, ◌≤◌, ◌<◌}
use mathlib.Core.Path.{◌≡◌, sym, ap, ◌∙◌, subst}
use mathlib.Core.Bool.{Bool, false, ◌&&◌}
use mathlib.Core.List.{List}
use native.Mathlib.Decide.{dec_lt}
use native.Mathlib.Nat.{not-suc-le-zero}
use native.Mathlib.Omega.{arith}
use lib.Dec.{T}
use lib.ListN.{length, get_or, replicate}
use Rattle.lists.proofs.Tables.{zeros_at}
use Rattle.sets.specs.Sets.{◌∈◌, member, set_of}
use Rattle.sets.proofs.Agree.{set_of_empty}
use Rattle.sets.proofs.Laws.{some_below_out}
use Rattle.sets.proofs.Truth.{and_r, no_false, false_no}
use Rattle.necklace.specs.Dag.{Dag, WellFormed}
use Rattle.necklace.specs.Automaton.{Automaton}
use Rattle.pattern_buffer.specs.Meaning.{labels_in, automaton_of, pattern_of}
use Rattle.log_buffer.specs.Meaning.{steps_in, log_of}
use Rattle.log_buffer.proofs.Meaning.{preds_are}
use Rattle.log_links.specs.Links.{LastTo}
use Rattle.necklace.specs.inner.Forward.{forward, reaches?}
use Rattle.necklace.proofs.Agrees.{reaches_from}
use Rattle.necklace.proofs.Hope.{alive_turn, among_some, reaches_alive}
use Rattle.layout.specs.Layout.{most_states, most_lanes}
use Rattle.hope.specs.Hope.{HopefulSet}
use Rattle.pass_steps.specs.PassSteps.{starts_in, bead_reaches, lane_reaches, lane_among, Held, FoundTo, Bounded}
use Rattle.pass_steps.proofs.BeginLaws.{starts_before, starts_past}
use Rattle.pass_steps.proofs.AdvanceLaws.{none_before}
use Rattle.passes.specs.Passes.{PassOf, Found}

-- ---- one pass

module _ (pattern log labels : List ℕ) (k hopeful : ℕ) (seeds : List ℕ) (first until : ℕ) (last : List ℕ) where
  abbrev G : Dag
  G = log_of log labels

  abbrev A : Automaton
  A = automaton_of pattern k

  abbrev S : ℕ → ℕ → Bool
  S i = starts_in seeds first until i

  unreached : (v : ℕ) → ((i : ℕ) → i < most_lanes → lane_reaches pattern log labels k seeds first until v i ≡ false) → set_of most_lanes (lane_reaches pattern log labels k seeds first until v) ≡ 0
  unreached v h = set_of_empty most_lanes (lane_reaches pattern log labels k seeds first until v) h

  not_before : (v i : ℕ) → v < first → lane_reaches pattern log labels k seeds first until v i ≡ false
  unfolding lane_reaches bead_reaches
  not_before v i h =
      no_false (reaches? ((pattern_of pattern).bead k).modality G A (S i) v)
      (λ t. let u = reaches_from G A (S i) ((pattern_of pattern).bead k).modality v t in let l = u.1 in
      false_no (S i u.0) (starts_before seeds first until i u.0 (omega arith)) u.2)

  -- ---- the beginning

  pub held_none : (work : List ℕ) → Held pattern log labels k seeds first until first work
  held_none work = record { begun = omega arith; lanes = λ i w r a b c d. absurd (omega arith) }

  nowhere : (i w : ℕ) → w < first → T (lane_among pattern log labels k hopeful seeds first until w i) → ⊥
  unfolding lane_among
  nowhere i w h t =
      let r = some_below_out most_states (λ r. member r hopeful && forward G A (S i) w r) (among_some G A (S i) (λ q. member q hopeful) ((pattern_of pattern).bead k).modality w t) in
      false_no (forward G A (S i) w r.0) (none_before pattern log labels k seeds first until i w r.0 h) (and_r (member r.0 hopeful) (forward G A (S i) w r.0) r.2)

  pub bounded_none : first < until → until ≤ steps_in log → Bounded pattern log labels k hopeful seeds first until last first (until - 1)
  bounded_none h l = record {
    inside = omega arith;
    starts = omega arith;
    far = λ i w a d t. absurd (nowhere i w d t);
  }

  pub found_none : (old found : List ℕ) → found ≡ replicate (length old) 0 → FoundTo pattern log labels k seeds first until first found
  found_none old found e = record { lanes = λ v d. zero_at v ∙ sym (unreached v (λ i a. not_before v i d)); rest = λ v d. zero_at v }
    where
      zero_at : (v : ℕ) → get_or found v 0 ≡ 0
      zero_at v = ap (λ (z : List ℕ). get_or z v 0) e ∙ zeros_at (length old) v

  -- nothing begins: nothing is reached
  pub pass_none : (old found : List ℕ) → found ≡ replicate (length old) 0 → until ≤ first → Found pattern log labels k seeds first until found
  unfolding lane_reaches bead_reaches
  pass_none old found e h = record {
    lanes = λ v l. ap (λ (z : List ℕ). get_or z v 0) e ∙ zeros_at (length old) v
        ∙ sym (unreached v (λ i a. no_false (reaches? ((pattern_of pattern).bead k).modality G A (S i) v)
        (λ t. let u = reaches_from G A (S i) ((pattern_of pattern).bead k).modality v t in false_no (S i u.0) (never i u.0 (dec_lt u.0 first)) u.2)));
  }
    where
      never : (i u : ℕ) → Dec (u < first) → S i u ≡ false
      never i u (yes l) = starts_before seeds first until i u l
      never i u (no l) = starts_past seeds first until i u (omega arith)

  module _ (p : PassOf pattern log labels k) where
    g : WellFormed (labels_in pattern) (log_of log labels)
    g = p.well_formed

    -- ---- the end

    module _ (x reach : ℕ) (found : List ℕ) (inv : Bounded pattern log labels k hopeful seeds first until last x reach) (met : FoundTo pattern log labels k seeds first until x found) (past : reach < x)
        (far : LastTo log (steps_in log) last) (hope : HopefulSet pattern k hopeful) where
      -- past the reach of the pass no lane is alive
      dead : (n v i : ℕ) → v < n → x ≤ v → v < steps_in log → i < most_lanes → T (lane_among pattern log labels k hopeful seeds first until v i) → ⊥
      unfolding lane_among
      dead zero v i h up l a = absurd (not-suc-le-zero h)
      dead (suc n) v i h up l a =
          alive_turn G A (S i) (λ q. member q hopeful) hope.states g v ((pattern_of pattern).bead k).modality p.one_next p.bead.states
          (starts_past seeds first until i v (let b = inv.starts in omega arith))
          (λ w m. before w m (dec_lt w x) (λ c. dead n w i (let d = g.rising w v m in omega arith) c (let d = g.rising w v m in omega arith) a))
        where
          before : (w : ℕ) → w ∈ G.preds v → Dec (w < x) → (x ≤ w → T (lane_among pattern log labels k hopeful seeds first until w i) → ⊥) → T (lane_among pattern log labels k hopeful seeds first until w i) → ⊥
          before w m (yes c) rest t =
              let d = inv.far i w a c t in
              let e = far.far w v l (subst (λ (ls : List ℕ). w ∈ ls) (preds_are log labels v l) m) in
              omega arith
          before w m (no c) rest t = rest (omega arith) t

      pub pass_end : Found pattern log labels k seeds first until found
      unfolding lane_among lane_reaches bead_reaches
      pass_end = record { lanes = λ v l. go v l (dec_lt v x) }
        where
          go : (v : ℕ) → v < steps_in log → Dec (v < x) → get_or found v 0 ≡ set_of most_lanes (lane_reaches pattern log labels k seeds first until v)
          go v l (yes h) = met.lanes v h
          go v l (no h) =
              met.rest v (omega arith)
              ∙ sym (unreached v (λ i a. no_false (lane_reaches pattern log labels k seeds first until v i)
              (λ t. dead (suc v) v i (omega arith) (omega arith) l a (reaches_alive G A (S i) (λ q. member q hopeful) hope.states ((pattern_of pattern).bead k).modality v t))))

pub ruleset none_kit = (found_none, pass_none)

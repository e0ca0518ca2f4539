-- A log buffer that passes the test means a well formed dag; and which of its places say what of the dag.
-- Assumes nothing.
use Prim.Native.Nat.{ℕ, zero, suc, ◌+◌, ◌-◌, ◌≤◌, ◌<◌}
use mathlib.Core.Path.{◌≡◌, refl, sym, ap, ◌∙◌, subst}
use mathlib.Core.Logic.{inl, inr}
use mathlib.Core.List.{List, [], ◌∷◌}
use native.Mathlib.Omega.{arith}
use borrow.Author.Tests.{lt-ltb, le-ltb}
use lib.Dec.{T}
use lib.ListN.{length, get_or, take, drop, length-drop}
use lib.Seq.{length-take-le, get_or-take, get_or-drop}
use Rattle.sets.proofs.Agree.{members_empty}
use Rattle.lists.specs.Places.{at}
use Rattle.sets.specs.Sets.{◌∈◌, members}
use Rattle.sets.proofs.Laws.{below_within, members_out}
use Rattle.necklace.specs.Dag.{WellFormed}
use Rattle.layout.specs.Layout.{most_labels, most_steps, labels_at, link_at}
use Rattle.log_buffer.specs.Meaning.{steps_in, links_into, log_of, label_sets, log_of_room}
use Rattle.log_buffer.specs.Valid.{is_log}
use Rattle.log_buffer.proofs.Sound.{Sound, sound_iff, begin, width, begin_next, begin_inside}

-- ---- the dag of any buffer

pub size_is : (b ls : List ℕ) → (log_of b ls).size ≡ steps_in b
unfolding log_of
size_is b ls = refl

-- a label set of the buffer's own
pub label_set_is : (b : List ℕ) (v : ℕ) → v < most_steps → at (label_sets b) v ≡ at b (labels_at v)
label_set_is b v h = get_or-take most_steps (drop (labels_at 0) b) v 0 h ∙ get_or-drop (labels_at 0) b v 0

module _ (b ls : List ℕ) (v : ℕ) where
  pub labels_are : v < steps_in b → (log_of b ls).labels v ≡ members most_labels (at ls v)
  unfolding log_of
  labels_are h = simp (lt-ltb v (steps_in b) h)

  pub preds_are : v < steps_in b → (log_of b ls).preds v ≡ links_into b v
  unfolding log_of
  preds_are h = simp (lt-ltb v (steps_in b) h)

  pub labels_past : steps_in b ≤ v → (log_of b ls).labels v ≡ []
  unfolding log_of
  labels_past h = simp (le-ltb v (steps_in b) h)

  pub preds_past : steps_in b ≤ v → (log_of b ls).preds v ≡ []
  unfolding log_of
  preds_past h = simp (le-ltb v (steps_in b) h)

  -- what has a member stands inside
  some_label : (a : ℕ) → a ∈ (log_of b ls).labels v → v < steps_in b
  some_label a m = let n : steps_in b ≤ v → ⊥ = λ h. subst (λ (set : List ℕ). a ∈ set) (labels_past h) m in omega arith

  some_pred : (u : ℕ) → u ∈ (log_of b ls).preds v → v < steps_in b
  some_pred u m = let n : steps_in b ≤ v → ⊥ = λ h. subst (λ (us : List ℕ). u ∈ us) (preds_past h) m in omega arith

-- ---- members of a list, by their places

pub place_of : (u : ℕ) (us : List ℕ) → u ∈ us → (k : ℕ) × (k < length us) × (get_or us k 0 ≡ u)
place_of u [] m = absurd m
place_of u (w ∷ us) (inl e) = (0, omega arith, sym e)
place_of u (w ∷ us) (inr m) = let r = place_of u us m in let l = r.1 in (suc r.0, omega arith, r.2)

pub at_place : (us : List ℕ) (k : ℕ) → k < length us → get_or us k 0 ∈ us
at_place [] k h = absurd (omega arith)
at_place (w ∷ us) zero h = inl refl
at_place (w ∷ us) (suc k) h = inr (at_place us k (omega arith))

-- ---- the links of a buffer that passes

module _ {count : ℕ} {b : List ℕ} (s : Sound count b) (v : ℕ) (inside : v < steps_in b) where
  pub preds_length : length (links_into b v) ≡ width b v
  preds_length =
      let up = begin_next s v inside in
      let in_room = begin_inside s (v + 1) (omega arith) in
      let long = s.long in
      let d = length-drop (link_at (begin b v)) b in
      length-take-le (width b v) (drop (link_at (begin b v)) b) (omega arith)

  pub pred_at : (k : ℕ) → k < width b v → get_or (links_into b v) k 0 ≡ at b (link_at (begin b v + k))
  pred_at k h =
      let e : link_at (begin b v) + k ≡ link_at (begin b v + k) = omega arith in
      get_or-take (width b v) (drop (link_at (begin b v)) b) k 0 h ∙ get_or-drop (link_at (begin b v)) b k 0 ∙ ap (at b) e

  -- a link is smaller than its step
  pub link_below : (i : ℕ) → begin b v ≤ i → i < begin b (v + 1) → at b (link_at i) < v
  link_below i h l =
      let k : ℕ = i - begin b v in
      let e : begin b v + k ≡ i = omega arith in
      subst (λ (j : ℕ). at b (link_at j) < v) e (s.below v k inside (omega arith))

  pub pred_out : (ls : List ℕ) (u : ℕ) → u ∈ (log_of b ls).preds v → (i : ℕ) × (begin b v ≤ i) × (i < begin b (v + 1)) × (at b (link_at i) ≡ u)
  pred_out ls u m =
      let r = place_of u (links_into b v) (subst (λ (us : List ℕ). u ∈ us) (preds_are b ls v inside) m) in
      let l = r.1 in
      let n = preds_length in
      (begin b v + r.0, omega arith, omega arith, sym (pred_at r.0 (omega arith)) ∙ r.2)

  pub pred_in : (ls : List ℕ) (i : ℕ) → begin b v ≤ i → i < begin b (v + 1) → at b (link_at i) ∈ (log_of b ls).preds v
  pred_in ls i h l =
      let k : ℕ = i - begin b v in
      let e : begin b v + k ≡ i = omega arith in
      let n = preds_length in
      subst (λ (us : List ℕ). at b (link_at i) ∈ us) (sym (preds_are b ls v inside))
      (subst (λ (u : ℕ). u ∈ links_into b v) (pred_at k (omega arith) ∙ ap (λ (j : ℕ). at b (link_at j)) e) (at_place (links_into b v) k (omega arith)))

-- ---- well formed

pub sound_well_formed : (count : ℕ) (b : List ℕ) → Sound count b → WellFormed count (log_of_room b)
sound_well_formed count b s = record {
  started = rw (size_is b own) s.started;
  start_bare = no_label 0 s.started s.bare;
  start_first =
      let e : width b 0 ≡ 0 = let u = s.unlinked in omega arith in
      preds_are b own 0 s.started ∙ ap (λ (n : ℕ). take n (drop (link_at (begin b 0)) b)) e;
  linked = λ v l n.
      let h : v < steps_in b = rw (size_is b own) at l in
      let w = s.linked v h n in
      (at b (link_at (begin b v)), pred_in s v h own (begin b v) (omega arith) w);
  rising = λ u v m. let h = some_pred b own v u m in below u v h (pred_out s v h own u m);
  known = λ v a m. known v a (some_label b own v a m) m;
  edges_inside = λ u v m. rw (size_is b own) (some_pred b own v u m);
  labels_inside = λ v a m. rw (size_is b own) (some_label b own v a m);
}
  where
    own : List ℕ
    own = label_sets b

    labels_read : (v : ℕ) → v < steps_in b → (log_of b own).labels v ≡ members most_labels (at b (labels_at v))
    labels_read v h = labels_are b own v h ∙ ap (members most_labels) (label_set_is b v (let f = s.few_steps in omega arith))

    no_label : (v : ℕ) → v < steps_in b → at b (labels_at v) ≡ 0 → (log_of b own).labels v ≡ []
    no_label v h z = labels_read v h ∙ ap (members most_labels) z ∙ members_empty most_labels

    below : (u v : ℕ) → v < steps_in b → (i : ℕ) × (begin b v ≤ i) × (i < begin b (v + 1)) × (at b (link_at i) ≡ u) → u < v
    below u v h r = subst (λ (w : ℕ). w < v) r.3 (link_below s v h r.0 r.1 r.2)

    known : (v a : ℕ) → v < steps_in b → a ∈ (log_of b own).labels v → a < count
    known zero a h m = absurd (subst (λ (set : List ℕ). a ∈ set) (no_label 0 h s.bare) m)
    known (suc v) a h m =
        let t = (members_out most_labels (at b (labels_at (suc v))) a (subst (λ (set : List ℕ). a ∈ set) (labels_read (suc v) h) m)).1 in
        below_within count (at b (labels_at (suc v))) (s.labelled (suc v) h (λ z. absurd (omega arith))) a t

-- What the judge may take for granted of a log buffer.
pub log_well_formed : (count : ℕ) (b : List ℕ) → T (is_log count b) → WellFormed count (log_of_room b)
log_well_formed count b t = sound_well_formed count b ((sound_iff count b).0 t)

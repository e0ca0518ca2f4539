-- A buffer passes the test exactly if it holds the steps of a log: from the steps to the places, and back.
-- Assumes nothing.
use Prim.Native.Nat.{ℕ, zero, suc, ◌+◌, ◌-◌, ◌^◌, ◌≤◌, ◌<◌}
use mathlib.Core.Path.{◌≡◌, refl, sym, ap, ap₂, ◌∙◌, subst}
use mathlib.Core.Bool.{Bool, true, false}
use mathlib.Core.List.{List, [], ◌∷◌, ◌++◌, map}
use native.Mathlib.Omega.{arith}
use native.Mathlib.Numerals.{add-one}
use borrow.Author.Tests.{ltb-true, ltb-false}
use lib.Dec.{ltb}
use lib.ListN.{length, get_or, take, drop, length-append, length-map, get_or-append, get_or-eq_default, get_or-map}
use lib.Seq.{take-length, take-append-le, take_all, get_or-append_seam, get_or-append-add, get_or-take, get_or-drop, take-add, drop-drop, ext_get_or, length-take-le}
use Rattle.lists.specs.Places.{at}
use Rattle.sets.specs.Sets.{members}
use Rattle.layout.specs.Layout.{most_labels, most_steps, most_links, labels_at, board_at, begin_at, link_at, log_length}
use Rattle.log_line.specs.Step.{Step, link_count}
use Rattle.log_store.specs.Buffer.{begins, links, buffer_of}
use Rattle.log_store.specs.inner.Accepted.{StepsFit, none, more}
use Rattle.log_store.proofs.AcceptedLaws.{few_steps, few_links}
use Rattle.log_store.proofs.BufferLaws.{count_end, count_more, links_end, links_more, length_begins, length_links}
use Rattle.log_store.proofs.BufferFacts.{Holds, buffer_holds, holds_buffer, begins_at}
use Rattle.log_buffer.specs.Meaning.{steps_in, links_into, label_sets, log_of_room}
use Rattle.log_texts.specs.Spelled.{step_in, steps_up_to, steps_of}
use Rattle.log_buffer.proofs.Sound.{Sound, begin, width, begin_next, begin_inside}
use Rattle.log_buffer.proofs.Meaning.{label_set_is, labels_are, preds_are, preds_length, pred_at}
use Rattle.log_texts.proofs.StepLaws.{Linked, linked_out, linked_in, labelled_out, labelled_in, no_step, StepHolds, hold_fits, hold_at, Whole}

-- ---- where the links of each step begin, and which they are

link_count_next : (xs : List Step) (v : ℕ) → v < length xs → link_count (take (suc v) xs) ≡ link_count (take v xs) + length (get_or xs v no_step).preds
unfolding link_count
link_count_next [] v h = absurd (omega arith)
link_count_next (x ∷ xs) zero h = omega arith
link_count_next (x ∷ xs) (suc v) h = let e = link_count_next xs v (omega arith) in omega arith

link_count_part : (xs : List Step) (v : ℕ) → link_count (take v xs) ≤ link_count xs
unfolding link_count
link_count_part [] zero = omega arith
link_count_part [] (suc v) = omega arith
link_count_part (x ∷ xs) zero = omega arith
link_count_part (x ∷ xs) (suc v) = let e = link_count_part xs v in omega arith

links_at : (xs : List Step) (v k : ℕ) → v < length xs → k < length (get_or xs v no_step).preds
    → get_or (links xs) (link_count (take v xs) + k) 0 ≡ get_or (get_or xs v no_step).preds k 0
unfolding links link_count
links_at [] v k h l = absurd (omega arith)
links_at (x ∷ xs) zero k h l =
    let e : 0 + k ≡ k = omega arith in
    ap (λ (j : ℕ). get_or (x.preds ++ links xs) j 0) e ∙ get_or-append x.preds (links xs) 0 k l
links_at (x ∷ xs) (suc v) k h l =
    let e : length x.preds + link_count (take v xs) + k ≡ length x.preds + (link_count (take v xs) + k) = omega arith in
    ap (λ (j : ℕ). get_or (x.preds ++ links xs) j 0) e ∙ get_or-append-add x.preds (links xs) (link_count (take v xs) + k) 0
    ∙ links_at xs v k (omega arith) l

-- ---- from the steps to the places

module _ (count : ℕ) (b : List ℕ) (xs : List Step) (long : log_length ≤ length b) (whole : Whole count xs)
    (given : take log_length b ≡ buffer_of xs) where
  few : length xs ≤ most_steps
  few = few_steps whole.fit

  many : link_count xs ≤ most_links
  many = few_links whole.fit

  place : (i : ℕ) → i < log_length → at b i ≡ at (buffer_of xs) i
  place i l = sym (get_or-take log_length b i 0 l) ∙ ap (λ (c : List ℕ). at c i) given

  held : Holds (buffer_of xs) xs
  held = buffer_holds xs few many

  pub counted : at b 0 ≡ length xs
  counted = place 0 (omega arith) ∙ held.count

  labels_there : (v : ℕ) → v < most_steps → at b (labels_at v) ≡ get_or (map (λ x. x.labels) xs) v 0
  labels_there v l = place (labels_at v) (omega arith) ∙ held.labels v l

  board_there : (v : ℕ) → v < most_steps → at b (board_at v) ≡ get_or (map (λ x. x.board) xs) v 0
  board_there v l = place (board_at v) (omega arith) ∙ held.board v l

  begins_on : (v : ℕ) → v < most_steps + 1 → begin b v ≡ get_or (begins 0 xs) v 0
  begins_on v l = place (begin_at v) (omega arith) ∙ held.begin v l

  links_on : (i : ℕ) → i < most_links → at b (link_at i) ≡ get_or (links xs) i 0
  links_on i l = place (link_at i) (omega arith) ∙ held.link i l

  step : (v : ℕ) → v < length xs → StepHolds count v (get_or xs v no_step)
  step v l = hold_at whole.fit v l

  links_there : (v : ℕ) → v < length xs → Linked v (get_or xs v no_step).preds
  links_there v l = linked_out v (get_or xs v no_step).preds (step v l).linked

  labels_on : (v : ℕ) → v < length xs → at b (labels_at v) ≡ (get_or xs v no_step).labels
  labels_on v l = labels_there v (let f = few in omega arith) ∙ get_or-map (λ (x : Step). x.labels) xs v no_step

  board_on : (v : ℕ) → v < length xs → at b (board_at v) ≡ (get_or xs v no_step).board
  board_on v l = board_there v (let f = few in omega arith) ∙ get_or-map (λ (x : Step). x.board) xs v no_step

  begin_there : (v : ℕ) → v ≤ length xs → begin b v ≡ link_count (take v xs)
  begin_there v l = let f = few in let e = begins_on v (omega arith) in let g = begins_at 0 xs v l in omega arith

  begin_after : (v : ℕ) → v < length xs → begin b (v + 1) ≡ begin b v + length (get_or xs v no_step).preds
  begin_after v l =
      let e = begin_there v (omega arith) in
      let f = begin_there (suc v) l in
      let g = link_count_next xs v l in
      let z = ap (λ (w : ℕ). begin b w) (add-one v) in
      omega arith

  link_on : (v k : ℕ) → v < length xs → k < length (get_or xs v no_step).preds → at b (link_at (begin b v + k)) ≡ get_or (get_or xs v no_step).preds k 0
  link_on v k l m =
      let e = begin_there v (omega arith) in
      let g = link_count_next xs v l in
      let p = link_count_part xs (suc v) in
      let q = many in
      links_on (begin b v + k) (omega arith) ∙ ap (λ (j : ℕ). get_or (links xs) (j + k) 0) e ∙ links_at xs v k l m

  all_links : begin b (length xs) ≡ link_count xs
  all_links = begin_there (length xs) (omega arith) ∙ ap link_count (take-length xs)

  pub steps_sound : Sound count b
  steps_sound =
      let n = counted in
      let f = few in
      let some = whole.some in
      record {
        long = long;
        started = omega arith;
        few_steps = omega arith;
        bare = labels_on 0 some ∙ (labelled_out count 0 (get_or xs 0 no_step).labels (step 0 some).labelled).0 refl;
        labelled = λ v l z.
            let m : v < length xs = omega arith in
            subst (λ (s : ℕ). s < 2 ^ count) (sym (labels_on v m)) ((labelled_out count v (get_or xs v no_step).labels (step v m).labelled).1 z);
        boarded = λ v l. let m : v < length xs = omega arith in let e = board_on v m in let g = (step v m).boarded in omega arith;
        no_labels = λ v l m. labels_there v m ∙ get_or-eq_default (map (λ x. x.labels) xs) 0 {n = v} (let e = length-map xs (λ x. x.labels) in omega arith);
        no_board = λ v l m. board_there v m ∙ get_or-eq_default (map (λ x. x.board) xs) 0 {n = v} (let e = length-map xs (λ x. x.board) in omega arith);
        start = begin_there 0 (omega arith) ∙ count_end;
        unlinked = let e = begin_after 0 some in let z = (links_there 0 some).first refl in omega arith;
        linked = λ v l z. let m : v < length xs = omega arith in let e = begin_after v m in let g = (links_there v m).others z in omega arith;
        at_most = λ v l. let m : v < length xs = omega arith in let e = begin_after v m in let g = (step v m).at_most in omega arith;
        no_begin = λ v l m. begins_on (v + 1) (omega arith) ∙ get_or-eq_default (begins 0 xs) 0 {n = v + 1} (let e = length_begins 0 xs in omega arith);
        few_links = let e = all_links in let g = ap (begin b) n in let p = many in omega arith;
        below = λ v k l m.
            let i : v < length xs = omega arith in
            let e = begin_after v i in
            let j : k < length (get_or xs v no_step).preds = omega arith in
            subst (λ (u : ℕ). u < v) (sym (link_on v k i j)) ((links_there v i).below k j);
        rising = λ v k l m.
            let i : v < length xs = omega arith in
            let e = begin_after v i in
            let j : suc k < length (get_or xs v no_step).preds = omega arith in
            let p = link_on v k i (omega arith) in
            let q = link_on v (suc k) i j in
            let r = (links_there v i).rises k j in
            omega arith;
        rest = λ i l m.
            let e = all_links in
            let g = ap (begin b) n in
            let p = length_links xs in
            links_on i m ∙ get_or-eq_default (links xs) 0 {n = i} (omega arith);
      }

  -- the dag that the buffer means has the steps' label sets and links
  pub labels_mean : (v : ℕ) → v < length xs → (log_of_room b).labels v ≡ members most_labels (get_or xs v no_step).labels
  labels_mean v l = let n = counted in let f = few in labels_are b (label_sets b) v (omega arith) ∙ ap (members most_labels) (label_set_is b v (omega arith) ∙ labels_on v l)

  pub preds_mean : (v : ℕ) → v < length xs → (log_of_room b).preds v ≡ (get_or xs v no_step).preds
  preds_mean v l =
      let n = counted in
      let i : v < steps_in b = omega arith in
      let e = preds_length steps_sound v i in
      let f = begin_after v l in
      preds_are b (label_sets b) v i
      ∙ ext_get_or 0 (links_into b v) (get_or xs v no_step).preds (omega arith) (λ k m. pred_at steps_sound v i k (omega arith) ∙ link_on v k l (omega arith))

-- ---- from the places to the steps

pub length_up_to : (b : List ℕ) (n : ℕ) → length (steps_up_to b n) ≡ n
unfolding steps_up_to
length_up_to b zero = refl
length_up_to b (suc n) = let e = length_up_to b n in let f = length-append (steps_up_to b n) (step_in b n ∷ []) in omega arith

up_to_at : (b : List ℕ) (n v : ℕ) → v < n → get_or (steps_up_to b n) v no_step ≡ step_in b v
unfolding steps_up_to
up_to_at b zero v h = absurd (omega arith)
up_to_at b (suc n) v h = go (ltb v n) refl (up_to_at b n v)
  where
    go : (t : Bool) → ltb v n ≡ t → (v < n → get_or (steps_up_to b n) v no_step ≡ step_in b v) → get_or (steps_up_to b n ++ (step_in b n ∷ [])) v no_step ≡ step_in b v
    go true e rest =
        let l = ltb-true v n e in
        let m = length_up_to b n in
        get_or-append (steps_up_to b n) (step_in b n ∷ []) no_step v (omega arith) ∙ rest l
    go false e rest =
        let l = ltb-false v n e in
        let m = length_up_to b n in
        let z : v ≡ length (steps_up_to b n) = omega arith in
        let y : n ≡ v = omega arith in
        ap (λ (j : ℕ). get_or (steps_up_to b n ++ (step_in b n ∷ [])) j no_step) z ∙ get_or-append_seam (steps_up_to b n) (step_in b n) [] no_step ∙ ap (step_in b) y

up_to_take : (b : List ℕ) (n v : ℕ) → v ≤ n → take v (steps_up_to b n) ≡ steps_up_to b v
unfolding steps_up_to
up_to_take b zero v h = let z : v ≡ 0 = omega arith in rw z
up_to_take b (suc n) v h = go (ltb n v) refl (up_to_take b n v)
  where
    go : (t : Bool) → ltb n v ≡ t → (v ≤ n → take v (steps_up_to b n) ≡ steps_up_to b v) → take v (steps_up_to b n ++ (step_in b n ∷ [])) ≡ steps_up_to b v
    go true e rest =
        let l = ltb-true n v e in
        let z : v ≡ suc n = omega arith in
        let m = length_up_to b (suc n) in
        take_all v (steps_up_to b (suc n)) (omega arith) ∙ ap (steps_up_to b) (sym z)
    go false e rest =
        let l = ltb-false n v e in
        let m = length_up_to b n in
        take-append-le v (steps_up_to b n) (step_in b n ∷ []) (omega arith) ∙ rest l

module _ (count : ℕ) (b : List ℕ) (s : Sound count b) where
  link_count_up_to : (v : ℕ) → v ≤ steps_in b → link_count (steps_up_to b v) ≡ begin b v
  unfolding steps_up_to
  link_count_up_to zero h = count_end ∙ sym s.start
  link_count_up_to (suc v) h =
      let e = link_count_up_to v (omega arith) in
      let f = count_more (steps_up_to b v) (step_in b v) in
      let g = preds_length s v h in
      let u = begin_next s v h in
      let z = ap (λ (w : ℕ). begin b w) (add-one v) in
      omega arith

  links_up_to : (v : ℕ) → v ≤ steps_in b → links (steps_up_to b v) ≡ take (begin b v) (drop (link_at 0) b)
  unfolding steps_up_to
  links_up_to zero h = links_end ∙ ap (λ (n : ℕ). take n (drop (link_at 0) b)) (sym s.start)
  links_up_to (suc v) h =
      let u = begin_next s v h in
      let z = ap (λ (w : ℕ). begin b w) (add-one v) in
      let w : begin b v + width b v ≡ begin b (suc v) = omega arith in
      links_more (steps_up_to b v) (step_in b v)
      ∙ ap₂ (λ (p q : List ℕ). p ++ q) (links_up_to v (omega arith)) (ap (take (width b v)) (sym (drop-drop (begin b v) (link_at 0) b)))
      ∙ sym (take-add (begin b v) (width b v) (drop (link_at 0) b))
      ∙ ap (λ (n : ℕ). take n (drop (link_at 0) b)) w

  step_holds : (v : ℕ) → v < steps_in b → StepHolds count v (step_in b v)
  step_holds v l =
      let n = preds_length s v l in
      let m = s.at_most v l in
      record {
        linked = linked_in v (links_into b v) (record {
          first = λ z. first z n;
          others = λ z. let k = s.linked v l z in omega arith;
          below = λ k h. let j : k < width b v = omega arith in let e = pred_at s v l k j in let r = s.below v k l j in omega arith;
          rises = λ k h.
              let j : suc k < width b v = omega arith in
              let e = pred_at s v l k (omega arith) in
              let f = pred_at s v l (suc k) j in
              let r = s.rising v k l j in
              omega arith;
        });
        labelled = labelled_in count v (at b (labels_at v)) (λ z. ap (λ (w : ℕ). at b (labels_at w)) z ∙ s.bare) (s.labelled v l);
        at_most = omega arith;
        boarded = s.boarded v l;
      }
    where
      first : v ≡ 0 → length (links_into b v) ≡ width b v → length (links_into b v) ≡ 0
      first z e = e ∙ ap (width b) z ∙ none_first
        where
          none_first : width b 0 ≡ 0
          none_first = let u = s.unlinked in omega arith

  fit_up_to : (v : ℕ) → v ≤ steps_in b → StepsFit count (steps_up_to b v)
  unfolding steps_up_to
  fit_up_to zero h = none
  fit_up_to (suc v) h =
      let n = length_up_to b v in
      let k = link_count_up_to v (omega arith) in
      let p = preds_length s v h in
      let u = begin_next s v h in
      let i = begin_inside s (v + 1) (omega arith) in
      let f = s.few_steps in
      more (fit_up_to v (omega arith))
      (hold_fits count (steps_up_to b v) (step_in b v) (subst (λ (w : ℕ). StepHolds count w (step_in b v)) (sym n) (step_holds v h)) (omega arith) (omega arith))

  pub places_whole : Whole count (steps_of b)
  places_whole =
      let n = length_up_to b (steps_in b) in
      let g = s.started in
      record { some = omega arith; fit = fit_up_to (steps_in b) (omega arith) }

  -- a value of each step, and 0 past the last
  value_at : (f : Step → ℕ) (g : ℕ → ℕ) → f no_step ≡ 0 → ((v : ℕ) → f (step_in b v) ≡ g v) → (v : ℕ) → (steps_in b ≤ v → g v ≡ 0)
      → g v ≡ get_or (map f (steps_of b)) v 0
  value_at f g z same v past = go (ltb v (steps_in b)) refl
    where
      go : (t : Bool) → ltb v (steps_in b) ≡ t → g v ≡ get_or (map f (steps_of b)) v 0
      go true e =
          sym (ap (λ (d : ℕ). get_or (map f (steps_of b)) v d) (sym z) ∙ get_or-map f (steps_of b) v no_step
          ∙ ap f (up_to_at b (steps_in b) v (ltb-true v (steps_in b) e)) ∙ same v)
      go false e =
          let h = ltb-false v (steps_in b) e in
          let n = length_up_to b (steps_in b) in
          let m = length-map (steps_of b) f in
          past h ∙ sym (get_or-eq_default (map f (steps_of b)) 0 {n = v} (omega arith))

  begin_from : (v : ℕ) → v < most_steps + 1 → begin b v ≡ get_or (begins 0 (steps_of b)) v 0
  begin_from v l = go (ltb (steps_in b) v) refl
    where
      go : (t : Bool) → ltb (steps_in b) v ≡ t → begin b v ≡ get_or (begins 0 (steps_of b)) v 0
      go true e =
          let h = ltb-true (steps_in b) v e in
          let n = length_up_to b (steps_in b) in
          let m = length_begins 0 (steps_of b) in
          let w : ℕ = v - 1 in
          let z : v ≡ w + 1 = omega arith in
          ap (begin b) z ∙ s.no_begin w (omega arith) (omega arith) ∙ sym (get_or-eq_default (begins 0 (steps_of b)) 0 {n = v} (omega arith))
      go false e =
          let h = ltb-false (steps_in b) v e in
          let n = length_up_to b (steps_in b) in
          let a = begins_at 0 (steps_of b) v (omega arith) in
          let c = ap link_count (up_to_take b (steps_in b) v h) in
          let d = link_count_up_to v h in
          omega arith

  link_from : (i : ℕ) → i < most_links → at b (link_at i) ≡ get_or (links (steps_of b)) i 0
  link_from i l = go (ltb i (begin b (steps_in b))) refl
    where
      all : links (steps_of b) ≡ take (begin b (steps_in b)) (drop (link_at 0) b)
      all = links_up_to (steps_in b) (omega arith)

      go : (t : Bool) → ltb i (begin b (steps_in b)) ≡ t → at b (link_at i) ≡ get_or (links (steps_of b)) i 0
      go true e =
          sym (ap (λ (r : List ℕ). get_or r i 0) all ∙ get_or-take (begin b (steps_in b)) (drop (link_at 0) b) i 0 (ltb-true i (begin b (steps_in b)) e)
          ∙ get_or-drop (link_at 0) b i 0)
      go false e =
          let h = ltb-false i (begin b (steps_in b)) e in
          let n = length_links (steps_of b) in
          let k = link_count_up_to (steps_in b) (omega arith) in
          s.rest i h l ∙ sym (get_or-eq_default (links (steps_of b)) 0 {n = i} (omega arith))

  -- so the buffer begins with what its steps give
  pub places_given : take log_length b ≡ buffer_of (steps_of b)
  places_given = holds_buffer (take log_length b) (steps_of b) (few_steps places_whole.fit) (few_links places_whole.fit) (record {
    size = length-take-le log_length b s.long;
    count = front 0 (omega arith) ∙ sym (length_up_to b (steps_in b));
    labels = λ v l.
        front (labels_at v) (omega arith) ∙ value_at (λ x. x.labels) (λ w. at b (labels_at w)) refl (λ w. refl) v (λ h. s.no_labels v h l);
    board = λ v l.
        front (board_at v) (omega arith) ∙ value_at (λ x. x.board) (λ w. at b (board_at w)) refl (λ w. refl) v (λ h. s.no_board v h l);
    begin = λ v l. front (begin_at v) (omega arith) ∙ begin_from v l;
    link = λ i l. front (link_at i) (omega arith) ∙ link_from i l;
  })
    where
      front : (i : ℕ) → i < log_length → get_or (take log_length b) i 0 ≡ at b i
      front i l = get_or-take log_length b i 0 l

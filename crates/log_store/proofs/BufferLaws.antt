-- The log buffer in its blocks, each filled from its front; and how a step more is stored.
-- Assumes nothing.
use mathlib.Core.Path.{◌≡◌, refl, sym, ap, ap₂, ◌∙◌, subst}
use mathlib.Core.List.{List, [], ◌∷◌, ◌++◌, map, append-nil, append_assoc, map-append}
use Prim.Native.Nat.{ℕ, zero, suc, ◌+◌, ◌-◌, ◌≤◌, ◌<◌}
use native.Mathlib.Omega.{arith}
use lib.ListN.{length, length-drop, take, drop, set, replicate, length-append, length-set, length-map}
use lib.ListN.{length-replicate}
use lib.Seq.{drop-append-add, set_at, take_at, length-take-le}
use Rattle.layout.specs.Layout.{most_steps, most_links, most_preds, labels_at, board_at, begin_at, link_at, log_length}
use Rattle.log_line.specs.Step.{Step, link_count}
use Rattle.log_step.specs.Limits.{InLimits}
use Rattle.log_store.specs.Buffer.{padded, begins, links, buffer_of}
use Rattle.log_store.specs.inner.Stores.{values_stored, links_stored, StepStored}
use Rattle.log_line.specs.declared.preds.Links.{Links}
use Rattle.log_step.specs.declared.StepValues.{StepValues}

-- ---- the places of a step

pub values_are : (b : List ℕ) (v s board end : ℕ)
    → set (set (set (set b 0 (v + 1)) (labels_at v) s) (board_at v) board) (begin_at v + 1) end ≡ values_stored b v s board end
unfolding values_stored
values_are b v s board end = let e : begin_at v + 1 ≡ begin_at (v + 1) = omega arith in rw e

pub ruleset values_kit = (values_are)

length_values : (b : List ℕ) (v s board end : ℕ) → length (values_stored b v s board end) ≡ length b
unfolding values_stored
length_values b v s board end = simp length-set

length_stored : (b us : List ℕ) (before : ℕ) → length b ≡ log_length → before + length us ≤ most_links → length (links_stored b before us) ≡ log_length
unfolding links_stored
length_stored b us before size few =
    let t = length-take-le (link_at before) b (omega arith) in
    let d = length-drop (link_at before + length us) b in
    let e = length-append us (drop (link_at before + length us) b) in
    length-append (take (link_at before) b) (us ++ drop (link_at before + length us) b) ∙ omega arith

-- ---- the blocks

pub length_padded : (m : ℕ) (l : List ℕ) → length l ≤ m → length (padded m l) ≡ m
length_padded m l h = length-append l (replicate (m - length l) 0) ∙ ap (λ (n : ℕ). length l + n) (length-replicate {A = ℕ} (m - length l) 0)
    ∙ omega arith

drop_zeros : (k m : ℕ) → drop k (replicate {A = ℕ} m 0) ≡ replicate (m - k) 0
drop_zeros zero m = let e : m ≡ m - 0 = omega arith in ap (λ (n : ℕ). replicate n 0) e
drop_zeros (suc k) zero = let e : 0 ≡ 0 - suc k = omega arith in ap (λ (n : ℕ). replicate {A = ℕ} n 0) e
drop_zeros (suc k) (suc m) = let e : m - k ≡ suc m - suc k = omega arith in drop_zeros k m ∙ ap (λ (n : ℕ). replicate {A = ℕ} n 0) e

-- A block filled from its front grows by one number.
set_block : (p l r : List ℕ) (m i x : ℕ) → length l < m → length p + length l ≡ i
    → set (p ++ (padded m l ++ r)) i x ≡ p ++ (padded m (l ++ (x ∷ [])) ++ r)
set_block p l r m i x h e =
    ap (λ (k : List ℕ). set (p ++ (k ++ r)) i x) before
    ∙ ap (λ (k : List ℕ). set k i x) (regroup 0)
    ∙ set_at (p ++ l) 0 (zeros ++ r) x i (length-append p l ∙ e)
    ∙ sym (regroup x)
    ∙ ap (λ (k : List ℕ). p ++ (k ++ r)) (sym after)
  where
    zeros : List ℕ
    zeros = replicate (m - suc (length l)) 0

    before : padded m l ≡ l ++ (0 ∷ zeros)
    before = let n : m - length l ≡ suc (m - suc (length l)) = omega arith in ap (λ (n : ℕ). l ++ replicate n 0) n

    after : padded m (l ++ (x ∷ [])) ≡ l ++ (x ∷ zeros)
    after =
        let n : m - length (l ++ (x ∷ [])) ≡ m - suc (length l) = rw (length-append l (x ∷ [])) (omega arith) in
        ap (λ (n : ℕ). (l ++ (x ∷ [])) ++ replicate n 0) n ∙ append_assoc l (x ∷ []) zeros

    regroup : (y : ℕ) → p ++ ((l ++ (y ∷ zeros)) ++ r) ≡ (p ++ l) ++ (y ∷ (zeros ++ r))
    regroup y = ap (λ (k : List ℕ). p ++ k) (append_assoc l (y ∷ zeros) r) ∙ sym (append_assoc p l (y ∷ (zeros ++ r)))

-- The buffer of a step count, label sets, boards, beginnings and links.
pub blocks : ℕ → List ℕ → List ℕ → List ℕ → List ℕ → List ℕ
blocks n ls bs gs us = (n ∷ []) ++ (padded most_steps ls ++ (padded most_steps bs ++ (padded (most_steps + 1) gs ++ padded most_links us)))

pub buffer_blocks : (xs : List Step)
    → buffer_of xs ≡ blocks (length xs) (map (λ (x : Step). x.labels) xs) (map (λ (x : Step). x.board) xs) (begins 0 xs) (links xs)
unfolding blocks
buffer_blocks xs = refl

set_count : (n m : ℕ) (ls bs gs us : List ℕ) → set (blocks n ls bs gs us) 0 m ≡ blocks m ls bs gs us
unfolding blocks
set_count n m ls bs gs us = refl

-- What stands before the boards, the beginnings and the links.
abbrev pub to_boards : ℕ → List ℕ → List ℕ
to_boards n ls = (n ∷ []) ++ padded most_steps ls

abbrev pub to_begins : ℕ → List ℕ → List ℕ → List ℕ
to_begins n ls bs = to_boards n ls ++ padded most_steps bs

abbrev pub to_links : ℕ → List ℕ → List ℕ → List ℕ → List ℕ
to_links n ls bs gs = to_begins n ls bs ++ padded (most_steps + 1) gs

module _ (n : ℕ) (ls bs gs us : List ℕ) where
  pub from_labels : blocks n ls bs gs us ≡ (n ∷ []) ++ (padded most_steps ls ++ (padded most_steps bs ++ (padded (most_steps + 1) gs ++ padded most_links us)))
  unfolding blocks
  from_labels = refl

  pub from_boards : blocks n ls bs gs us ≡ to_boards n ls ++ (padded most_steps bs ++ (padded (most_steps + 1) gs ++ padded most_links us))
  unfolding blocks
  from_boards = refl

  pub from_begins : blocks n ls bs gs us ≡ to_begins n ls bs ++ (padded (most_steps + 1) gs ++ padded most_links us)
  from_begins = from_boards ∙ sym (append_assoc (to_boards n ls) (padded most_steps bs) (padded (most_steps + 1) gs ++ padded most_links us))

  pub from_links : blocks n ls bs gs us ≡ to_links n ls bs gs ++ padded most_links us
  from_links = from_begins ∙ sym (append_assoc (to_begins n ls bs) (padded (most_steps + 1) gs) (padded most_links us))

module _ (n : ℕ) (ls : List ℕ) (fit : length ls ≤ most_steps) where
  pub boards_from : length (to_boards n ls) ≡ board_at 0
  boards_from = let e = length_padded most_steps ls fit in omega arith

  module _ (bs : List ℕ) (fit_b : length bs ≤ most_steps) where
    pub begins_from : length (to_begins n ls bs) ≡ begin_at 0
    begins_from = length-append (to_boards n ls) (padded most_steps bs) ∙ (let a = boards_from in let e = length_padded most_steps bs fit_b in omega arith)

    pub links_from : (gs : List ℕ) → length gs ≤ most_steps + 1 → length (to_links n ls bs gs) ≡ link_at 0
    links_from gs h = length-append (to_begins n ls bs) (padded (most_steps + 1) gs) ∙ (let a = begins_from in let e = length_padded (most_steps + 1) gs h in omega arith)

module _ (n : ℕ) (ls bs gs us : List ℕ) (i x : ℕ) where
  set_labels : length ls < most_steps → labels_at (length ls) ≡ i → set (blocks n ls bs gs us) i x ≡ blocks n (ls ++ (x ∷ [])) bs gs us
  set_labels h e =
      ap (λ (k : List ℕ). set k i x) (from_labels n ls bs gs us)
      ∙ set_block (n ∷ []) ls (padded most_steps bs ++ (padded (most_steps + 1) gs ++ padded most_links us)) most_steps i x h e
      ∙ sym (from_labels n (ls ++ (x ∷ [])) bs gs us)

  set_board : length ls ≤ most_steps → length bs < most_steps → board_at (length bs) ≡ i → set (blocks n ls bs gs us) i x ≡ blocks n ls (bs ++ (x ∷ [])) gs us
  set_board f h e =
      ap (λ (k : List ℕ). set k i x) (from_boards n ls bs gs us)
      ∙ set_block (to_boards n ls) bs (padded (most_steps + 1) gs ++ padded most_links us) most_steps i x h (let a = boards_from n ls f in omega arith)
      ∙ sym (from_boards n ls (bs ++ (x ∷ [])) gs us)

  set_begin : length ls ≤ most_steps → length bs ≤ most_steps → length gs < most_steps + 1 → begin_at (length gs) ≡ i
      → set (blocks n ls bs gs us) i x ≡ blocks n ls bs (gs ++ (x ∷ [])) us
  set_begin f g h e =
      ap (λ (k : List ℕ). set k i x) (from_begins n ls bs gs us)
      ∙ set_block (to_begins n ls bs) gs (padded most_links us) (most_steps + 1) i x h (let a = begins_from n ls f bs g in omega arith)
      ∙ sym (from_begins n ls bs (gs ++ (x ∷ [])) us)

put_links : (n : ℕ) (ls bs gs us ws : List ℕ) (before : ℕ) → length ls ≤ most_steps → length bs ≤ most_steps → length gs ≤ most_steps + 1 → length us ≡ before
    → before + length ws ≤ most_links
    → links_stored (blocks n ls bs gs us) before ws ≡ blocks n ls bs gs (us ++ ws)
unfolding links_stored
put_links n ls bs gs us ws before f g h e k =
    ap (λ (s : List ℕ). take (link_at before) s ++ (ws ++ drop (link_at before + length ws) s)) whole
    ∙ ap₂ (λ (a b : List ℕ). a ++ (ws ++ b)) (take_at front zeros (link_at before) long) behind
    ∙ append_assoc (to_links n ls bs gs) us (ws ++ replicate (most_links - before - length ws) 0)
    ∙ ap (λ (s : List ℕ). to_links n ls bs gs ++ s) (sym (append_assoc us ws (replicate (most_links - before - length ws) 0)))
    ∙ ap (λ (m : ℕ). to_links n ls bs gs ++ ((us ++ ws) ++ replicate m 0)) rest
    ∙ sym (from_links n ls bs gs (us ++ ws))
  where
    front : List ℕ
    front = to_links n ls bs gs ++ us

    zeros : List ℕ
    zeros = replicate (most_links - before) 0

    whole : blocks n ls bs gs us ≡ front ++ zeros
    whole =
        from_links n ls bs gs us ∙ sym (append_assoc (to_links n ls bs gs) us (replicate (most_links - length us) 0))
        ∙ ap (λ (m : ℕ). front ++ replicate (most_links - m) 0) e

    long : length front ≡ link_at before
    long = length-append (to_links n ls bs gs) us ∙ (let a = links_from n ls f bs g gs h in omega arith)

    behind : drop (link_at before + length ws) (front ++ zeros) ≡ replicate (most_links - before - length ws) 0
    behind =
        ap (λ (m : ℕ). drop (m + length ws) (front ++ zeros)) (sym long)
        ∙ drop-append-add front zeros (length ws) ∙ drop_zeros (length ws) (most_links - before)

    rest : most_links - before - length ws ≡ most_links - length (us ++ ws)
    rest = let a = length-append us ws in omega arith

-- ---- one step more

pub begins_next : (n : ℕ) (y : Step) (ys : List Step) → begins n (y ∷ ys) ≡ n ∷ begins (n + length y.preds) ys
unfolding begins
begins_next n y ys = refl

pub begins_end : (n : ℕ) → begins n [] ≡ n ∷ []
unfolding begins
begins_end n = refl

pub links_next : (y : Step) (ys : List Step) → links (y ∷ ys) ≡ y.preds ++ links ys
unfolding links
links_next y ys = refl

pub links_end : links [] ≡ []
unfolding links
links_end = refl

pub count_next : (y : Step) (ys : List Step) → link_count (y ∷ ys) ≡ length y.preds + link_count ys
unfolding link_count
count_next y ys = refl

pub count_end : link_count [] ≡ 0
unfolding link_count
count_end = refl

pub count_more : (xs : List Step) (x : Step) → link_count (xs ++ (x ∷ [])) ≡ link_count xs + length x.preds
count_more [] x = let a = count_next x [] in let b = count_end in omega arith
count_more (y ∷ ys) x = let a = count_next y (ys ++ (x ∷ [])) in let b = count_next y ys in let c = count_more ys x in omega arith

pub begins_more : (n : ℕ) (xs : List Step) (x : Step) → begins n (xs ++ (x ∷ [])) ≡ begins n xs ++ ((n + link_count xs + length x.preds) ∷ [])
begins_more n [] x =
    let e : n + length x.preds ≡ n + link_count [] + length x.preds = let c = count_end in omega arith in
    begins_next n x [] ∙ ap (λ (k : List ℕ). n ∷ k) (begins_end (n + length x.preds) ∙ ap (λ (m : ℕ). m ∷ []) e)
    ∙ sym (ap (λ (k : List ℕ). k ++ ((n + link_count [] + length x.preds) ∷ [])) (begins_end n))
begins_more n (y ∷ ys) x =
    let e : n + length y.preds + link_count ys + length x.preds ≡ n + link_count (y ∷ ys) + length x.preds = let c = count_next y ys in
    omega arith in
    begins_next n y (ys ++ (x ∷ []))
    ∙ ap (λ (k : List ℕ). n ∷ k) (begins_more (n + length y.preds) ys x ∙ ap (λ (m : ℕ). begins (n + length y.preds) ys ++ (m ∷ [])) e)
    ∙ sym (ap (λ (k : List ℕ). k ++ ((n + link_count (y ∷ ys) + length x.preds) ∷ [])) (begins_next n y ys))

pub links_more : (xs : List Step) (x : Step) → links (xs ++ (x ∷ [])) ≡ links xs ++ x.preds
links_more [] x = links_next x [] ∙ ap (λ (k : List ℕ). x.preds ++ k) links_end ∙ append-nil x.preds
    ∙ sym (ap (λ (k : List ℕ). k ++ x.preds) links_end)
links_more (y ∷ ys) x =
    links_next y (ys ++ (x ∷ [])) ∙ ap (λ (k : List ℕ). y.preds ++ k) (links_more ys x)
    ∙ sym (append_assoc y.preds (links ys) x.preds) ∙ sym (ap (λ (k : List ℕ). k ++ x.preds) (links_next y ys))

pub length_begins : (n : ℕ) (xs : List Step) → length (begins n xs) ≡ suc (length xs)
length_begins n [] = ap length (begins_end n)
length_begins n (y ∷ ys) = ap length (begins_next n y ys) ∙ ap suc (length_begins (n + length y.preds) ys)

pub length_links : (xs : List Step) → length (links xs) ≡ link_count xs
length_links [] = ap length links_end ∙ sym count_end
length_links (y ∷ ys) =
    ap length (links_next y ys) ∙ length-append y.preds (links ys) ∙ ap (λ (m : ℕ). length y.preds + m) (length_links ys)
    ∙ sym (count_next y ys)

-- The stores of a step, one after the other, make the buffer with it.
module _ (xs : List Step) (x : Step) (v before : ℕ) (counted : length xs ≡ v) (edges : link_count xs ≡ before)
    (ok : InLimits (length x.preds) v before) where
  abbrev sets : List Step → List ℕ
  sets = map (λ (y : Step). y.labels)

  abbrev boards : List Step → List ℕ
  boards = map (λ (y : Step). y.board)

  grow : links_stored (values_stored (buffer_of xs) v x.labels x.board (before + length x.preds)) before x.preds ≡ buffer_of (xs ++ (x ∷ []))
  unfolding values_stored
  grow =
      let a = length-map xs (λ (y : Step). y.labels) in
      let b = length-map xs (λ (y : Step). y.board) in
      let g = length_begins 0 xs in
      let u = length_links xs in
      let h = ok.step in
      let i : v + 1 ≡ length (xs ++ (x ∷ [])) = sym (length-append xs (x ∷ []) ∙ omega arith) in
      let la = length-append (sets xs) (x.labels ∷ []) in
      let lb = length-append (boards xs) (x.board ∷ []) in
      let lg = length-append (begins 0 xs) ((before + length x.preds) ∷ []) in
      let e : before + length x.preds ≡ 0 + link_count xs + length x.preds = omega arith in
      ap (λ (k : List ℕ). links_stored (set (set (set (set k 0 (v + 1)) (labels_at v) x.labels) (board_at v) x.board) (begin_at (v + 1)) (before + length x.preds)) before x.preds)
      (buffer_blocks xs)
      ∙ ap (λ (k : List ℕ). links_stored (set (set (set k (labels_at v) x.labels) (board_at v) x.board) (begin_at (v + 1)) (before + length x.preds)) before x.preds)
      (set_count (length xs) (v + 1) (sets xs) (boards xs) (begins 0 xs) (links xs))
      ∙ ap (λ (k : List ℕ). links_stored (set (set k (board_at v) x.board) (begin_at (v + 1)) (before + length x.preds)) before x.preds)
      (set_labels (v + 1) (sets xs) (boards xs) (begins 0 xs) (links xs) (labels_at v) x.labels (omega arith) (omega arith))
      ∙ ap (λ (k : List ℕ). links_stored (set k (begin_at (v + 1)) (before + length x.preds)) before x.preds)
      (set_board (v + 1) (sets xs ++ (x.labels ∷ [])) (boards xs) (begins 0 xs) (links xs) (board_at v) x.board (omega arith) (omega arith) (omega arith))
      ∙ ap (λ (k : List ℕ). links_stored k before x.preds)
      (set_begin (v + 1) (sets xs ++ (x.labels ∷ [])) (boards xs ++ (x.board ∷ [])) (begins 0 xs) (links xs) (begin_at (v + 1)) (before + length x.preds)
      (omega arith) (omega arith) (omega arith) (omega arith))
      ∙ put_links (v + 1) (sets xs ++ (x.labels ∷ [])) (boards xs ++ (x.board ∷ [])) (begins 0 xs ++ ((before + length x.preds) ∷ []))
      (links xs) x.preds before
      (omega arith) (omega arith) (omega arith) (u ∙ edges) ok.all
      ∙ rw (i, e, ← begins_more 0 xs x, ← links_more xs x, ← map-append (λ (y : Step). y.labels) xs (x ∷ []), ← map-append (λ (y : Step). y.board) xs (x ∷ []))
      (sym (buffer_blocks (xs ++ (x ∷ []))))

-- As the code has it: the links are the first of eight places.
module _ (old : List ℕ) (v before : ℕ) (w : StepValues) (n : Links) (size : length old ≡ log_length) (eight : length n.first ≡ most_preds)
    (ok : InLimits n.count v before) where
  pub links_taken : n.count ≡ length (take n.count n.first)
  links_taken = sym (length-take-le n.count n.first (let h = ok.few in omega arith))

  pub links_fit : before + length (take n.count n.first) ≤ most_links
  links_fit = let h = ok.all in let e = links_taken in omega arith

  pub step_stored : (mid new : List ℕ) → mid ≡ values_stored old v w.labels w.board (before + n.count)
      → new ≡ links_stored mid before (take n.count n.first)
      → StepStored old v before (record { board = w.board; labels = w.labels; preds = take n.count n.first }) new
  step_stored mid new p q = record {
    size = let a = ap length p ∙ length_values old v w.labels w.board (before + n.count) in ap length q
        ∙ length_stored mid (take n.count n.first) before (a ∙ size) links_fit;
    grown = λ xs counted edges is.
        q
        ∙ ap (λ (k : List ℕ). links_stored k before (take n.count n.first))
        (p ∙ ap₂ (λ (k : List ℕ) (n : ℕ). values_stored k v w.labels w.board (before + n)) is links_taken)
        ∙ grow xs (record { board = w.board; labels = w.labels; preds = take n.count n.first }) v before counted edges
        (subst (λ (n : ℕ). InLimits n v before) links_taken ok);
  }

pub ruleset store_kit = (links_taken, links_fit, step_stored)

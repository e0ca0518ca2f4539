-- The log buffer number by number, and that these numbers make it.
-- Assumes nothing.
use mathlib.Core.Path.{◌≡◌, refl, sym, ap, ◌∙◌}
use mathlib.Core.List.{List, [], ◌∷◌, ◌++◌, map}
use Prim.Native.Nat.{ℕ, zero, suc, ◌+◌, ◌-◌, ◌≤◌, ◌<◌}
use native.Mathlib.Omega.{arith}
use mathlib.Core.Bool.{Bool, true, false}
use borrow.Author.Tests.{ltb-true, ltb-false}
use lib.Dec.{ltb}
use lib.ListN.{length, get_or, take, replicate, length-append, length-map, get_or-append}
use lib.Seq.{get_or-append-add, ext_get_or}
use Rattle.lists.proofs.Tables.{zeros_at}
use Rattle.layout.specs.Layout.{labels_at, board_at, begin_at, link_at, most_steps, most_links, log_length}
use Rattle.log_line.specs.Step.{Step, link_count}
use Rattle.log_store.specs.Buffer.{padded, begins, links, buffer_of}
use Rattle.log_store.proofs.BufferLaws.{length_padded, buffer_blocks, to_boards, to_begins, to_links, from_labels, from_boards}
use Rattle.log_store.proofs.BufferLaws.{from_begins, from_links, boards_from, begins_from, links_from, length_begins, length_links}
use Rattle.log_store.proofs.BufferLaws.{begins_next, begins_end, count_next, count_end}

-- A buffer that holds these steps, place by place.
pub record Holds (b : List ℕ) (xs : List Step) : Type 0 where
  pub size : length b ≡ log_length
  pub count : get_or b 0 0 ≡ length xs
  pub labels : (v : ℕ) → v < most_steps → get_or b (labels_at v) 0 ≡ get_or (map (λ (x : Step). x.labels) xs) v 0
  pub board : (v : ℕ) → v < most_steps → get_or b (board_at v) 0 ≡ get_or (map (λ (x : Step). x.board) xs) v 0
  pub begin : (v : ℕ) → v < most_steps + 1 → get_or b (begin_at v) 0 ≡ get_or (begins 0 xs) v 0
  pub link : (i : ℕ) → i < most_links → get_or b (link_at i) 0 ≡ get_or (links xs) i 0

after_zeros : (l : List ℕ) (n i : ℕ) → get_or (l ++ replicate n 0) i 0 ≡ get_or l i 0
after_zeros [] n i = zeros_at n i
after_zeros (x ∷ xs) n zero = refl
after_zeros (x ∷ xs) n (suc i) = after_zeros xs n i

block_at : (p l r : List ℕ) (m k i : ℕ) → length p ≡ k → length l ≤ m → i < m → get_or (p ++ (padded m l ++ r)) (k + i) 0 ≡ get_or l i 0
block_at p l r m k i e h h2 =
    ap (λ (n : ℕ). get_or (p ++ (padded m l ++ r)) (n + i) 0) (sym e)
    ∙ get_or-append-add p (padded m l ++ r) i 0
    ∙ get_or-append (padded m l) r 0 i (let f = length_padded m l h in omega arith)
    ∙ after_zeros l (m - length l) i

module _ (xs : List Step) (steps : length xs ≤ most_steps) (edges : link_count xs ≤ most_links) where
  abbrev sets : List ℕ
  sets = map (λ (x : Step). x.labels) xs

  abbrev boards : List ℕ
  boards = map (λ (x : Step). x.board) xs

  few_sets : length sets ≤ most_steps
  few_sets = let e = length-map xs (λ (x : Step). x.labels) in omega arith

  few_boards : length boards ≤ most_steps
  few_boards = let e = length-map xs (λ (x : Step). x.board) in omega arith

  few_begins : length (begins 0 xs) ≤ most_steps + 1
  few_begins = let e = length_begins 0 xs in omega arith

  few_links : length (links xs) ≤ most_links
  few_links = let e = length_links xs in omega arith

  pub length_buffer : length (buffer_of xs) ≡ log_length
  length_buffer =
      ap length (buffer_blocks xs ∙ from_links (length xs) sets boards (begins 0 xs) (links xs))
      ∙ length-append (to_links (length xs) sets boards (begins 0 xs)) (padded most_links (links xs))
      ∙ (let a = links_from (length xs) sets few_sets boards few_boards (begins 0 xs) few_begins in let b = length_padded most_links (links xs) few_links in omega arith)

  pub buffer_holds : Holds (buffer_of xs) xs
  buffer_holds = record {
    size = length_buffer;
    count = refl;
    labels = λ v h. ap (λ (b : List ℕ). get_or b (labels_at v) 0) (buffer_blocks xs ∙ from_labels (length xs) sets boards (begins 0 xs) (links xs))
        ∙ block_at (length xs ∷ []) sets (padded most_steps boards ++ (padded (most_steps + 1) (begins 0 xs) ++ padded most_links (links xs))) most_steps 1 v refl few_sets h;
    board = λ v h. ap (λ (b : List ℕ). get_or b (board_at v) 0) (buffer_blocks xs ∙ from_boards (length xs) sets boards (begins 0 xs) (links xs))
        ∙ block_at (to_boards (length xs) sets) boards (padded (most_steps + 1) (begins 0 xs) ++ padded most_links (links xs)) most_steps (board_at 0) v
        (boards_from (length xs) sets few_sets) few_boards h;
    begin = λ v h. ap (λ (b : List ℕ). get_or b (begin_at v) 0) (buffer_blocks xs ∙ from_begins (length xs) sets boards (begins 0 xs) (links xs))
        ∙ block_at (to_begins (length xs) sets boards) (begins 0 xs) (padded most_links (links xs)) (most_steps + 1) (begin_at 0) v
        (begins_from (length xs) sets few_sets boards few_boards) few_begins h;
    link = λ i h. ap (λ (b : List ℕ). get_or b (link_at i) 0) (buffer_blocks xs ∙ from_links (length xs) sets boards (begins 0 xs) (links xs))
        ∙ ap (λ (n : ℕ). get_or (to_links (length xs) sets boards (begins 0 xs) ++ padded most_links (links xs)) (n + i) 0)
        (sym (links_from (length xs) sets few_sets boards few_boards (begins 0 xs) few_begins))
        ∙ get_or-append-add (to_links (length xs) sets boards (begins 0 xs)) (padded most_links (links xs)) i 0
        ∙ after_zeros (links xs) (most_links - length (links xs)) i;
  }

-- Two buffers that hold the same steps are the same.
pub holds_same : (a b : List ℕ) (xs : List Step) → Holds a xs → Holds b xs → a ≡ b
holds_same a b xs f g = ext_get_or 0 a b (f.size ∙ sym g.size) at
  where
    moved : (n k i : ℕ) → n ≡ k + i → get_or a (k + i) 0 ≡ get_or b (k + i) 0 → get_or a n 0 ≡ get_or b n 0
    moved n k i e q = rw e q

    at : (n : ℕ) → n < length a → get_or a n 0 ≡ get_or b n 0
    at n h = go (ltb n (labels_at 0)) refl (ltb n (board_at 0)) refl (ltb n (begin_at 0)) refl (ltb n (link_at 0)) refl
      where
        go : (p : Bool) → ltb n (labels_at 0) ≡ p → (q : Bool) → ltb n (board_at 0) ≡ q → (r : Bool) → ltb n (begin_at 0) ≡ r → (s : Bool) → ltb n (link_at 0) ≡ s
            → get_or a n 0 ≡ get_or b n 0
        go true d q e r j s k = let z : n ≡ 0 = (let w = ltb-true n (labels_at 0) d in omega arith) in rw z (f.count ∙ sym g.count)
        go false d true e r j s k =
            let w = ltb-false n (labels_at 0) d in
            let u = ltb-true n (board_at 0) e in
            moved n (labels_at 0) (n - labels_at 0) (omega arith) (f.labels (n - labels_at 0) (omega arith) ∙ sym (g.labels (n - labels_at 0) (omega arith)))
        go false d false e true j s k =
            let w = ltb-false n (board_at 0) e in
            let u = ltb-true n (begin_at 0) j in
            moved n (board_at 0) (n - board_at 0) (omega arith) (f.board (n - board_at 0) (omega arith) ∙ sym (g.board (n - board_at 0) (omega arith)))
        go false d false e false j true k =
            let w = ltb-false n (begin_at 0) j in
            let u = ltb-true n (link_at 0) k in
            moved n (begin_at 0) (n - begin_at 0) (omega arith) (f.begin (n - begin_at 0) (omega arith) ∙ sym (g.begin (n - begin_at 0) (omega arith)))
        go false d false e false j false k =
            let w = ltb-false n (link_at 0) k in
            let u = f.size in
            moved n (link_at 0) (n - link_at 0) (omega arith) (f.link (n - link_at 0) (omega arith) ∙ sym (g.link (n - link_at 0) (omega arith)))

pub holds_buffer : (b : List ℕ) (xs : List Step) → length xs ≤ most_steps → link_count xs ≤ most_links → Holds b xs → b ≡ buffer_of xs
holds_buffer b xs h k f = holds_same b (buffer_of xs) xs f (buffer_holds xs h k)

-- ---- the links of a step

-- Where they begin is how many links the steps before have.
pub begins_at : (n : ℕ) (xs : List Step) (v : ℕ) → v ≤ length xs → get_or (begins n xs) v 0 ≡ n + link_count (take v xs)
begins_at n [] zero h = ap (λ (l : List ℕ). get_or l 0 0) (begins_end n) ∙ (let e = count_end in omega arith)
begins_at n [] (suc v) h = absurd (omega arith)
begins_at n (x ∷ xs) zero h = ap (λ (l : List ℕ). get_or l 0 0) (begins_next n x xs) ∙ (let e = count_end in omega arith)
begins_at n (x ∷ xs) (suc v) h =
    ap (λ (l : List ℕ). get_or l (suc v) 0) (begins_next n x xs)
    ∙ begins_at (n + length x.preds) xs v (omega arith)
    ∙ (let e = count_next x (take v xs) in omega arith)

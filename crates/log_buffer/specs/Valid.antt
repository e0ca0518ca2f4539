-- The test of a log buffer under a label count, place by place. `GivenLog` says what it means; the theorem `log_buffers` proves it.
use Rattle.std.specs.Prelude.{ℕ, ◌+◌, ◌-◌, Bool, not, cond, ◌&&◌, ◌||◌, List, eqb, leb, ltb, length}
use Rattle.lists.specs.Places.{at}
use Rattle.sets.specs.Sets.{all_below, within}
use Rattle.layout.specs.Layout.{most_board, most_steps, most_links, most_preds, labels_at, board_at, begin_at, link_at, log_length}
use Rattle.log_buffer.specs.Meaning.{steps_in}

-- The label set and the board of a step; zeros past the last step.
abbrev pub values_ok : ℕ → List ℕ → ℕ → Bool
values_ok count b v =
    cond (ltb v (steps_in b))
    (cond (eqb v 0) (eqb (at b (labels_at v)) 0) (within count (at b (labels_at v))) && leb (at b (board_at v)) most_board)
    (eqb (at b (labels_at v)) 0 && eqb (at b (board_at v)) 0)

-- Where the links of the step after v begin: at most 8 after those of v, and at least 1, but none for step 0; zeros past the last.
abbrev pub begin_ok : List ℕ → ℕ → Bool
begin_ok b v =
    cond (ltb v (steps_in b))
    (cond (eqb v 0) (eqb (at b (begin_at (v + 1))) (at b (begin_at v)))
    (ltb (at b (begin_at v)) (at b (begin_at (v + 1))) && leb (at b (begin_at (v + 1))) (at b (begin_at v) + most_preds)))
    (eqb (at b (begin_at (v + 1))) 0)

-- The link at place i, one of step v: smaller than v, and larger than the one before it where it is not the first of v.
abbrev pub link_ok : List ℕ → ℕ → ℕ → Bool
link_ok b v i = ltb (at b (link_at i)) v && (eqb i (at b (begin_at v)) || ltb (at b (link_at (i - 1))) (at b (link_at i)))

abbrev pub links_ok : List ℕ → ℕ → Bool
links_ok b v =
    not (ltb v (steps_in b)) || all_below (at b (begin_at (v + 1)) - at b (begin_at v)) (λ k. link_ok b v (at b (begin_at v) + k))

-- Places past the last link are 0.
abbrev pub rest_ok : List ℕ → ℕ → Bool
rest_ok b i = ltb i (at b (begin_at (steps_in b))) || eqb (at b (link_at i)) 0

-- The places where links begin, then the links.
abbrev pub graph_ok : List ℕ → Bool
graph_ok b =
    eqb (at b (begin_at 0)) 0
    && (all_below most_steps (begin_ok b) && (leb (at b (begin_at (steps_in b))) most_links && (all_below most_steps (links_ok b) && all_below most_links (rest_ok b))))

unfoldable pub is_log : ℕ → List ℕ → Bool
is_log count b =
    leb log_length (length b)
    && (leb 1 (steps_in b) && (leb (steps_in b) most_steps && (all_below most_steps (values_ok count b) && graph_ok b)))

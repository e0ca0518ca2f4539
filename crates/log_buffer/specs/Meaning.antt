-- What a log buffer means: a labelled dag of the theory. A number that is no step has no labels and no predecessors.
use Rattle.std.specs.Prelude.{ℕ, ◌+◌, ◌-◌, cond, List, [], ltb, take, drop}
use Rattle.lists.specs.Places.{at}
use Rattle.sets.specs.Sets.{members}
use Rattle.necklace.specs.Dag.{Dag}
use Rattle.layout.specs.Layout.{most_labels, most_steps, labels_at, begin_at, link_at}

abbrev pub steps_in : List ℕ → ℕ
steps_in b = at b 0

-- The links into v: from the place where they begin up to the one where the next step's do.
abbrev pub links_into : List ℕ → ℕ → List ℕ
links_into b v = take (at b (begin_at (v + 1)) - at b (begin_at v)) (drop (link_at (at b (begin_at v))) b)

-- The step count and the links are read from the buffer, the label sets from a list beside it, a set a step.
unfoldable pub log_of : List ℕ → List ℕ → Dag
log_of b labels = record {
  size = steps_in b;
  labels = λ v. cond (ltb v (steps_in b)) (members most_labels (at labels v)) [];
  preds = λ v. cond (ltb v (steps_in b)) (links_into b v) [];
}

-- The buffer's own label sets.
abbrev pub label_sets : List ℕ → List ℕ
label_sets b = take most_steps (drop (labels_at 0) b)

-- The buffer with them.
abbrev pub log_of_room : List ℕ → Dag
log_of_room b = log_of b (label_sets b)

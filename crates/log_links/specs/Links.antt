-- What is relied on of the links of a log buffer, and the last step to which each step has a link.
use Rattle.std.specs.Prelude.{ℕ, ◌+◌, ◌≤◌, ◌<◌, ◌≡◌, Bool, true, cond, List, [], length, get_or}
use Rattle.lists.specs.Places.{at}
use Rattle.sets.specs.Sets.{◌∈◌}
use Rattle.necklace.specs.Compute.{elem}
use Rattle.layout.specs.Layout.{most_steps, most_links, begin_at, link_at, log_length}
use Rattle.log_buffer.specs.Meaning.{steps_in, links_into, log_of}

-- The links of a log buffer lie in order and inside it, and lead from smaller steps.
pub record Laid (log : List ℕ) : Type 0 where
  pub long : log_length ≤ length log
  pub some : 0 < steps_in log
  pub few : steps_in log ≤ most_steps
  pub order : (v : ℕ) → v < steps_in log → at log (begin_at v) ≤ at log (begin_at (v + 1))
  pub inside : (v : ℕ) → v ≤ steps_in log → at log (begin_at v) ≤ most_links
  pub smaller : (v i : ℕ) → v < steps_in log → at log (begin_at v) ≤ i → i < at log (begin_at (v + 1)) → at log (link_at i) < v

-- The links of the step v begin at place r.
pub record Begins (log : List ℕ) (v r : ℕ) : Type 0 where
  pub place : r ≡ at log (begin_at v)
  pub few : r ≤ most_links

-- Every number of the list is below n.
pub record Inside (n : ℕ) (list : List ℕ) : Type 0 where
  pub below : (i : ℕ) → i < length list → get_or list i 0 < n

-- If so, the step has no labels.
pub record BareIf (log labels : List ℕ) (x : ℕ) (r : Bool) : Type 0 where
  pub none : r ≡ true → (log_of log labels).labels x ≡ []

-- Each listed step has v noted for it, and the others what they had.
pub record Noted (links : List ℕ) (v : ℕ) (old new : List ℕ) : Type 0 where
  pub numbers : (u : ℕ) → get_or new u 0 ≡ cond (elem u links) v (get_or old u 0)

-- For each step the last one, of those below x, to which it has a link; 0 where there is none.
pub record LastTo (log : List ℕ) (x : ℕ) (last : List ℕ) : Type 0 where
  pub far : (u v : ℕ) → v < x → u ∈ links_into log v → v ≤ get_or last u 0
  pub inside : (u : ℕ) → get_or last u 0 < steps_in log

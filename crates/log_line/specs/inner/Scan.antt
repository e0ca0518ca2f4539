-- What one pass over the field `preds` finds out.
use Rattle.std.specs.Prelude.{ℕ, ◌+◌, ◌≤◌, ◌≡◌, true, false, cond, ◌&&◌, leb, ltb, List, length, take, Option, Some, None}
use Rattle.layout.specs.Layout.{most_preds}
use Rattle.numbers.specs.Listed.{list_of, is_list}
use Rattle.log_line.specs.Step.{mislinked}
use Rattle.log_line.specs.declared.preds.Links.{Links}
use Rattle.log_line.specs.declared.preds.Preds.{Preds}

-- These are the links us: how many and, if there is room for them, which.
pub record Lists (us : List ℕ) (r : Links) : Type 0 where
  pub size : length r.first ≡ most_preds
  pub counted : r.count ≡ length us
  pub stored : length us ≤ most_preds → us ≡ take (length us) r.first

-- The field f for step v has the form of links: whether they are wrong, and which.
pub record Formed (v : ℕ) (f : List ℕ) (r : Preds) : Type 0 where
  pub formed : is_list f ≡ true
  pub linked : r.mislinked ≡ mislinked v (list_of f)
  pub links : Lists (list_of f) r.links

abbrev pub Scanned : ℕ → List ℕ → Option Preds → Type 0
Scanned v f None = is_list f ≡ false
Scanned v f (Some r) = Formed v f r

-- What the number after u must be at least, so that all rise below v; none, once they do not.
unfoldable pub next_least : ℕ → Option ℕ → ℕ → Option ℕ
next_least v None u = None
next_least v (Some low) u = cond (leb low u && ltb u v) (Some (u + 1)) None

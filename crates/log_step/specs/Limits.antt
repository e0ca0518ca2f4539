-- The limits that an accepted line keeps.
use Rattle.std.specs.Prelude.{ℕ, ◌+◌, ◌≤◌, ◌<◌}
use Rattle.layout.specs.Layout.{most_steps, most_links, most_preds}

-- A line of n links, of step v, after steps with so many links, keeps the limits.
pub record InLimits (n v before : ℕ) : Type 0 where
  pub few : n ≤ most_preds
  pub step : v < most_steps
  pub all : before + n ≤ most_links

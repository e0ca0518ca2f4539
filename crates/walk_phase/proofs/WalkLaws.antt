-- The walk back from its first turn to its last.
-- Assumes nothing.
use Prim.Native.Nat.{ℕ, ◌≤◌, ◌<◌}
use mathlib.Core.Path.{◌≡◌, sym, subst}
use mathlib.Core.List.{List}
use native.Mathlib.Omega.{arith}
use Rattle.std.specs.Prelude.{None}
use Rattle.std.proofs.lemmas.Option.{none-some}
use Rattle.log_buffer.specs.Meaning.{log_of, steps_in}
use Rattle.pattern_buffer.specs.Meaning.{beads_in, pattern_of}
use Rattle.prefix_phase.specs.Marked.{Tested}
use Rattle.prefix_phase.proofs.MarkLaws.{lies, beads_few}
use Rattle.walk_places.specs.Walked.{Walked, WalkedBack}
use Rattle.walk_places.proofs.WalkLaws.{walked_done}
use Rattle.walk_turn.specs.declared.Turn.{Turn}
use Rattle.walk_turn.specs.Turns.{known_to, Walking, Due}

module _ (pattern log labels : List ℕ) (t : Tested pattern log labels) (n : ℕ) (steps_are : n ≡ steps_in log) where
  begun_at : (beads : ℕ) (pivots : List ℕ) → beads ≡ beads_in pattern → Walked (log_of log labels) (pattern_of pattern) (steps_in log) (beads_in pattern) 0 0 0 pivots
      → Walked (log_of log labels) (pattern_of pattern) n beads 0 0 0 pivots
  begun_at beads pivots e w =
      subst (λ (b : ℕ). Walked (log_of log labels) (pattern_of pattern) n b 0 0 0 pivots) (sym e)
      (subst (λ (m : ℕ). Walked (log_of log labels) (pattern_of pattern) m (beads_in pattern) 0 0 0 pivots) (sym steps_are) w)

  -- nothing is looked at in the first turn
  pub walks_first : (beads : ℕ) (seeds found pivots : List ℕ) → beads ≡ beads_in pattern
      → Walked (log_of log labels) (pattern_of pattern) (steps_in log) (beads_in pattern) 0 0 0 pivots
      → Walking pattern log labels n (record { left = beads; from = 0; to = None; step = 0 }) seeds found pivots
  unfolding pattern_of
  walks_first beads seeds found pivots e w = record {
    beads = omega arith;
    turn_in = λ h. record {
      some = h;
      place = let f = beads_few pattern log labels t in omega arith;
      few = let f = (lies pattern log labels t).few in let s = steps_are in omega arith;
      start = steps;
      low = omega arith;
      inside = steps;
      up = omega arith;
      most = omega arith;
    };
    first = λ e. omega arith;
    more = λ t e. absurd (none-some _ e);
    served = λ t e. absurd (none-some _ e);
    walked = begun_at beads pivots e w;
  }
    where
      steps : 0 < n
      steps = let o = (lies pattern log labels t).some in let s = steps_are in omega arith

  -- one is due while a bead is left
  pub walks_due : (turn : Turn) (seeds found pivots : List ℕ) → 0 < turn.left → Walking pattern log labels n turn seeds found pivots
      → Due pattern log labels n turn seeds found pivots
  walks_due turn seeds found pivots h w = record { some = h; steps_are = steps_are; walking = w }

  -- after the last one no bead is left
  pub walks_done : (turn : Turn) (seeds found pivots : List ℕ) → Walking pattern log labels n turn seeds found pivots → turn.left ≤ 0
      → WalkedBack (log_of log labels) (pattern_of pattern) (steps_in log) pivots
  walks_done turn seeds found pivots w h =
      let z : turn.left ≡ 0 = omega arith in
      subst (λ (x : ℕ). WalkedBack (log_of log labels) (pattern_of pattern) x pivots) steps_are
      (walked_done (log_of log labels) (pattern_of pattern) n turn.from (known_to turn) turn.step pivots
      (subst (λ (l : ℕ). Walked (log_of log labels) (pattern_of pattern) n l turn.from (known_to turn) turn.step pivots) z w.walked))

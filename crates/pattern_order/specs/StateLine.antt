-- What a line below the header says, and the refusals that look at the rows before it.
use Rattle.std.specs.Prelude.{ℕ, ◌+◌, Bool, false, not, cond, ◌&&◌, ◌||◌, List, [], ◌∷◌, eqb, ltb}
use Rattle.layout.specs.Layout.{most_beads, most_states}
use Rattle.rules.specs.Rules.{is_rule}

-- What a line says of a state of a bead: bead, rule (its number, 0 where the field names none), state, final, and the next set of each label.
pub record StateLine : Type 0 where
  pub bead : ℕ
  pub rule : ℕ
  pub state : ℕ
  pub accepting : ℕ
  pub next : List ℕ

-- The row before, if there is one, is the last of those before.
unfoldable pub follows_last : List StateLine → StateLine → Bool
follows_last [] r = eqb r.bead 1 && eqb r.state 0
follows_last (p ∷ []) r =
    (eqb r.bead p.bead && eqb r.state (p.state + 1)) || (eqb r.bead (p.bead + 1) && eqb r.state 0)
follows_last (p ∷ (q ∷ ps)) r = follows_last (q ∷ ps) r

-- 13: bead or state out of order or over its limit, or final over 1. Each next line is the next state of the bead or state 0 of the
-- next bead, from bead 1 and state 0 on.
abbrev pub disordered : List StateLine → StateLine → Bool
disordered before r =
    not (follows_last before r) || (ltb most_beads r.bead || (not (ltb r.state most_states) || ltb 1 r.accepting))

-- The rule is changed inside a bead, or the same as that of the bead before.
unfoldable pub breaks_turns : List StateLine → StateLine → Bool
breaks_turns [] r = false
breaks_turns (p ∷ []) r = cond (eqb r.bead p.bead) (not (eqb r.rule p.rule)) (eqb r.rule p.rule)
breaks_turns (p ∷ (q ∷ ps)) r = breaks_turns (q ∷ ps) r

-- 14: no rule, changed inside a bead, or the same as the bead before.
abbrev pub misruled : List StateLine → StateLine → Bool
misruled before r = not (is_rule r.rule) || breaks_turns before r

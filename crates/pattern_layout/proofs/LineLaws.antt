-- A row's line, put together from what the single calls write.
-- Assumes nothing.
use Prim.Native.Nat.{ℕ, ◌+◌, ◌-◌, ◌*◌, ◌≤◌, ◌<◌}
use mathlib.Core.Path.{◌≡◌, refl, sym, ap, ◌∙◌}
use mathlib.Core.Bool.{cond}
use mathlib.Core.List.{List, ◌++◌, append_assoc}
use native.Mathlib.Omega.{arith}
use Rattle.rules.proofs.RuleLaws.{word_short}
use lib.Dec.{T}
use lib.ListN.{length, get_or, take, drop, length-drop}
use lib.Seq.{length-take-le, get_or-take, get_or-drop}
use Rattle.sets.specs.Sets.{member}
use Rattle.lists.specs.Tables.{table}
use Rattle.lists.proofs.Tables.{table_is}
use Rattle.text.specs.Split.{joined, line_from}
use Rattle.writing.proofs.PutLaws.{joined_listed, kit}
use Rattle.pattern_order.specs.StateLine.{StateLine}
use Rattle.lists.specs.Places.{at}
use Rattle.layout.specs.Layout.{pattern_length, states_at, most_labels, most_beads, most_states, rule_at, accepting_at, sets_begin, sets_a_bead, sets_a_state}
use Rattle.pattern_buffer.specs.Meaning.{beads_in}
use Rattle.pattern_buffer.specs.Valid.{is_pattern}
use Rattle.pattern_buffer.proofs.Places.{passes_out, bead_there}
use Rattle.pattern_texts.specs.Spelled.{row_in, fields_of}
use Rattle.pattern_layout.specs.Parts.{row_start, row_end}

-- ---- the rule

pub ruleset rule_kit = (kit, word_short)

-- ---- what a pattern that passes has

module _ (b : List ℕ) (t : T (is_pattern b)) where
  pub long : pattern_length ≤ length b
  long = (passes_out b t).long

  pub few_labels : get_or b 0 0 ≤ most_labels
  few_labels = (passes_out b t).labels_most

  pub few_beads : get_or b 1 0 ≤ most_beads
  few_beads = (passes_out b t).beads_most

  pub few_states : (j : ℕ) → j < beads_in b → get_or b (states_at j) 0 ≤ most_states
  few_states j h = (bead_there b (passes_out b t) j h).states_most

-- ---- the line

line_parts : (r : StateLine) → row_start r.bead r.rule r.state ++ row_end r.accepting r.next ≡ line_from (fields_of r)
unfolding joined
line_parts r = rw (joined_listed 32 r.accepting r.next) (simp append_assoc refl)

-- The sets in a row's places.
sets_there : (b : List ℕ) (f n : ℕ) → f + n ≤ length b → table (λ a. at b (f + a)) n ≡ take n (drop f b)
sets_there b f n h =
    table_is (λ a. at b (f + a)) n (take n (drop f b)) (length-take-le n (drop f b) (let d = length-drop f b in omega arith))
    (λ a k. get_or-take n (drop f b) a 0 k ∙ get_or-drop f b a 0)

pub row_is : (b : List ℕ) (j q : ℕ) → T (is_pattern b) → j < beads_in b → q < at b (states_at j)
    → line_from (fields_of (row_in b j q))
    ≡ row_start (j + 1) (get_or b (rule_at j) 0) q
    ++ row_end (cond (member q (get_or b (accepting_at j) 0)) 1 0)
    (take (sets_begin + sets_a_bead * j + sets_a_state * q + get_or b 0 0 - (sets_begin + sets_a_bead * j + sets_a_state * q)) (drop (sets_begin + sets_a_bead * j + sets_a_state * q) b))
row_is b j q t bead state =
    let f : ℕ = sets_begin + sets_a_bead * j + sets_a_state * q in
    let inside : f + get_or b 0 0 ≤ length b = omega (arith, long b t, few_labels b t, few_beads b t, few_states b t j bead, bead, state) in
    let e : f + get_or b 0 0 - f ≡ get_or b 0 0 = omega arith in
    sym (line_parts (row_in b j q))
    ∙ ap (λ (ns : List ℕ). row_start (j + 1) (get_or b (rule_at j) 0) q ++ row_end (row_in b j q).accepting ns)
    (sets_there b f (get_or b 0 0) inside ∙ ap (λ (n : ℕ). take n (drop f b)) (sym e))

pub ruleset place_kit = (kit, row_is, long, few_labels, few_beads, few_states)

-- A line of a log's text, put together from what the single calls write; and where a step's numbers stand.
-- Assumes nothing.
use Prim.Native.Nat.{ℕ, ◌+◌, ◌-◌, ◌≤◌, ◌<◌}
use mathlib.Core.Path.{◌≡◌, refl, sym, ap, ◌∙◌}
use mathlib.Core.List.{List, [], ◌∷◌, ◌++◌, append_assoc}
use native.Mathlib.Omega.{arith}
use lib.Dec.{T}
use lib.Pow.{pow_mono}
use lib.ListN.{length, get_or, take, drop}
use lib.Seq.{take_all}
use Rattle.text.specs.Split.{joined, line_from}
use Rattle.numbers.specs.Numbers.{spell}
use Rattle.numbers.specs.Listed.{list_word}
use Rattle.layout.specs.Layout.{most_labels, log_length, most_steps, most_links, most_preds, begin_at, link_at}
use Rattle.log_buffer.specs.Meaning.{steps_in}
use Rattle.log_buffer.specs.Valid.{is_log}
use Rattle.log_buffer.proofs.Sound.{Sound, sound_iff, begin_next, begin_inside}
use Rattle.log_texts.specs.Spelled.{fields_of, header_line}
use Rattle.writing.specs.Put.{listed}
use Rattle.writing.proofs.PutLaws.{kit, joined_listed}

-- ---- links

pub links_word : (preds : List ℕ) → 1 ≤ length preds
    → list_word preds ≡ spell (get_or preds 0 0) ++ listed 44 (take (length preds - 1) (drop 1 preds))
links_word [] h = absurd (omega arith)
links_word (p ∷ ps) h =
    let e : ps ≡ take (length (p ∷ ps) - 1) ps = sym (take_all (length (p ∷ ps) - 1) ps (omega arith)) in
    joined_listed 44 p ps ∙ ap (λ (ns : List ℕ). spell p ++ listed 44 ns) e

pub ruleset preds_kit = (kit, links_word)

-- ---- lines

-- `vertex board labels preds`, and its newline
pub header_is :
    header_line
    -- `vertex board labels preds\n`
    ≡ 118 ∷ 101 ∷ 114 ∷ 116 ∷ 101 ∷ 120 ∷ 32 ∷ 98 ∷ 111 ∷ 97 ∷ 114 ∷ 100 ∷ 32 ∷ 108 ∷ 97 ∷ 98 ∷ 101 ∷ 108 ∷ 115 ∷ 32 ∷ 112 ∷ 114 ∷ 101 ∷ 100 ∷ 115
    ∷ 10 ∷ []
unfolding joined
header_is = refl

pub line_is : (step board labels : ℕ) (preds : List ℕ)
    → line_from (fields_of step (record { board = board; labels = labels; preds = preds }))
    ≡ (spell step ++ (32 ∷ [])) ++ (spell board ++ (32 ∷ [])) ++ (spell labels ++ (32 ∷ [])) ++ list_word preds ++ (10 ∷ [])
unfolding joined
line_is step board labels preds = simp append_assoc refl

pub ruleset line_kit = (kit, header_is, line_is)

-- ---- a step of a buffer

-- Under whatever label count it passes, it passes under the most.
pub under_most : (count : ℕ) (log : List ℕ) → count ≤ most_labels → T (is_log count log) → T (is_log most_labels log)
under_most count log fit t =
    let s = (sound_iff count log).0 t in
    (sound_iff most_labels log).1 (record {
      long = s.long;
      started = s.started;
      few_steps = s.few_steps;
      bare = s.bare;
      labelled = λ v h n. omega (arith, s.labelled v h n, pow_mono {i = count} {j = most_labels} fit);
      boarded = s.boarded;
      no_labels = s.no_labels;
      no_board = s.no_board;
      start = s.start;
      unlinked = s.unlinked;
      linked = s.linked;
      at_most = s.at_most;
      no_begin = s.no_begin;
      few_links = s.few_links;
      below = s.below;
      rising = s.rising;
      rest = s.rest;
    })

module _ (log : List ℕ) (t : T (is_log most_labels log)) where
  sound : Sound most_labels log
  sound = (sound_iff most_labels log).0 t

  pub long : log_length ≤ length log
  long = sound.long

  pub few_steps : get_or log 0 0 ≤ most_steps
  few_steps = sound.few_steps

  pub begin_rises : (step : ℕ) → step < steps_in log → get_or log (begin_at step) 0 ≤ get_or log (begin_at (step + 1)) 0
  begin_rises step h = begin_next sound step h

  pub few_links : (step : ℕ) → step < steps_in log → get_or log (begin_at (step + 1)) 0 ≤ get_or log (begin_at step) 0 + most_preds
  few_links step h = omega (arith, sound.at_most step h)

  pub begin_most : (step : ℕ) → step ≤ steps_in log → get_or log (begin_at step) 0 ≤ most_links
  begin_most step h = begin_inside sound step h

-- The length of a part between two places counted from the first link.
pub part_length : (a b : ℕ) → link_at b - link_at a ≡ b - a
part_length a b = omega arith

pub ruleset step_kit = (kit, long, few_steps, begin_rises, few_links, begin_most, part_length)

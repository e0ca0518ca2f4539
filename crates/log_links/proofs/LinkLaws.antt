-- The links into a step, as a part of the log buffer.
use Prim.Native.Nat.{ℕ, ◌+◌, ◌-◌, ◌<◌, min}
use mathlib.Core.Path.{◌≡◌, sym, ap, ◌∙◌}
use mathlib.Core.List.{List}
use native.Mathlib.Omega.{arith}
use borrow.Author.Tests.{eqb-true}
use lib.Dec.{T, eqb}
use lib.ListN.{length, get_or, take, drop, length-take}
use lib.Seq.{get_or-take, get_or-drop}
use Rattle.lists.specs.Places.{at}
use Rattle.sets.specs.Sets.{members}
use Rattle.sets.proofs.Agree.{members_empty}
use Rattle.layout.specs.Layout.{most_labels, link_at, most_steps}
use Rattle.log_buffer.specs.Meaning.{steps_in}
use Rattle.log_buffer.specs.Valid.{is_log}
use Rattle.log_buffer.proofs.Meaning.{labels_are, link_below}
use Rattle.log_buffer.proofs.Sound.{sound_iff, begin_next, begin_inside}
use Rattle.log_links.specs.Links.{Laid, Begins, Inside, BareIf}

-- A log buffer that passes its test.
pub laid : (count : ℕ) (log : List ℕ) → T (is_log count log) → Laid log
laid count log t =
    let s = (sound_iff count log).0 t in
    record {
      long = s.long;
      some = s.started;
      few = s.few_steps;
      order = λ v h. begin_next s v h;
      inside = λ v h. begin_inside s v h;
      smaller = λ v i h l m. link_below s v h i l m;
    }

module _ (log : List ℕ) (x from to : ℕ) (laid : Laid log) (h : x < steps_in log) (begins : Begins log x from) (ends : Begins log (x + 1) to) where
  pub links_small : Inside most_steps (take (link_at to - link_at from) (drop (link_at from) log))
  links_small = record { below = λ i k. small i k }
    where
      small : (i : ℕ) → i < length (take (link_at to - link_at from) (drop (link_at from) log))
          → get_or (take (link_at to - link_at from) (drop (link_at from) log)) i 0 < most_steps
      small i k =
          let k' : i < min (link_at to - link_at from) (length (drop (link_at from) log)) = simp length-take at k in
          let f = laid.few in
          let b = begins.place in
          let e = ends.place in
          let place : link_at from + i ≡ link_at (from + i) = omega arith in
          let read : get_or (take (link_at to - link_at from) (drop (link_at from) log)) i 0 ≡ at log (link_at (from + i)) =
          get_or-take (link_at to - link_at from) (drop (link_at from) log) i 0 (omega arith) ∙ get_or-drop (link_at from) log i 0 ∙ ap (at log) place in
          let m = laid.smaller x (from + i) h (omega arith) (omega arith) in
          omega arith

-- ---- a step without labels

pub bare_if : (log labels : List ℕ) (x set : ℕ) → set ≡ at labels x → x < steps_in log → BareIf log labels x (eqb set 0)
bare_if log labels x set z h = record {
  none = λ e. labels_are log labels x h ∙ ap (members most_labels) (sym z ∙ eqb-true set 0 e) ∙ members_empty most_labels;
}

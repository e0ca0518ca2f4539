use mathlib.Core.Path.{◌≡◌, sym}
use mathlib.Core.Logic.{inl, inr}
use Prim.Native.Nat.{◌+◌, ◌*◌, ◌<◌}
use native.Mathlib.Omega.{arith}
use borrow.Author.Rules.{rules}
use lib.ListN.{length, drop}
use Rattle.layout.specs.Layout.{row_length}
use Rattle.report.proofs.RowsLaws.{kit, line_more, none_left}
use Rattle.report.proofs.put_lines.Goals as goal

pub loop-step-init : goal.loop-step-init
loop-step-init c = (search rules, search rules, search rules, search rules, search rules, search (rules, kit))

pub loop-step-preserved : goal.loop-step-preserved
loop-step-preserved c =
    let step = c.loop-step.step-iterator.a.start in
    let more = line_more c.args.beads c.args.res.now step c.in-Some.row.now c.next.new.self.b.rest.now (search rules) (search rules) in
    let next : c.next.new.self.a.start ≡ step + 1 = search rules in
    (search rules, search rules, search rules, search (rules, kit), search rules, rw (next, more) (search (rules, kit)))

pub returns : goal.returns
returns c =
    let left = c.loop-step.invariant in
    let step = c.loop-step.step-iterator.a.start in
    let all : step ≡ c.args.steps =
    elim c.in-None.ensures.steps [
      | inl p ↦ omega (arith, left.0, left.1, p.1.1)
      | inr p ↦
          let short : length (drop (row_length * step) c.args.res.now) < row_length = search rules in
          none_left step c.args.steps c.args.res.now c.requires.steps_in_bounds short left.1
    ] in
    rw (sym all) left.5

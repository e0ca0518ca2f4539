-- The text that is laid is the pattern's under the header.
use borrow.Author.Rules.{rules}
use Rattle.pattern_writer.specs.Writer.{written}
use Rattle.pattern_writer.proofs.WriteLaws.{text_kit}
use Rattle.pattern_writer.proofs.write_text.Goals as goal

pub overflow_cast-n : goal.overflow_cast-n
overflow_cast-n c =
    let l = (c.lay.ensures (written c.args.header.now c.args.pattern.numbers.now) (λ room left n put. search rules)).some c.in-Some.n c.in-Some.is in
    let n = l.1 in
    search (rules, text_kit)

pub returns-in-None-clause-value : goal.returns-in-None-clause-value
returns-in-None-clause-value c =
    let l = (c.lay.ensures (written c.args.header.now c.args.pattern.numbers.now) (λ room left n put. search rules)).none c.in-None.is in
    let h = l.0 in
    search (rules, text_kit)

pub returns-in-None-clause-text_after : goal.returns-in-None-clause-text_after
returns-in-None-clause-text_after c =
    let l = (c.lay.ensures (written c.args.header.now c.args.pattern.numbers.now) (λ room left n put. search rules)).none c.in-None.is in
    let h = l.0 in
    let s = l.1 in
    search (rules, text_kit)

pub returns-in-Some-clause-value : goal.returns-in-Some-clause-value
returns-in-Some-clause-value c =
    let l = (c.lay.ensures (written c.args.header.now c.args.pattern.numbers.now) (λ room left n put. search rules)).some c.in-Some.n c.in-Some.is in
    let h = l.0 in
    let n = l.1 in
    search (rules, text_kit)

pub returns-in-Some-clause-text_after : goal.returns-in-Some-clause-text_after
returns-in-Some-clause-text_after c =
    let l = (c.lay.ensures (written c.args.header.now c.args.pattern.numbers.now) (λ room left n put. search rules)).some c.in-Some.n c.in-Some.is in
    let h = l.0 in
    let s = l.2 in
    search (rules, text_kit)

-- The text that is laid is the log's.
use borrow.Author.Rules.{rules}
use Rattle.log_texts.specs.Spelled.{text_of}
use Rattle.log_writer.proofs.Fits.{text_kit}
use Rattle.log_writer.proofs.write_fit.Goals as goal

pub overflow_cast-n : goal.overflow_cast-n
overflow_cast-n c =
    let l = (c.lay.ensures (text_of c.args.log.now) (λ room left n put. search rules)).some c.in-Some.n c.in-Some.is in
    let n = l.1 in
    search (rules, text_kit)

pub returns-in-None-clause-value : goal.returns-in-None-clause-value
returns-in-None-clause-value c =
    let l = (c.lay.ensures (text_of c.args.log.now) (λ room left n put. search rules)).none c.in-None.is in
    let h = l.0 in
    search (rules, text_kit)

pub returns-in-None-clause-text_after : goal.returns-in-None-clause-text_after
returns-in-None-clause-text_after c =
    let l = (c.lay.ensures (text_of c.args.log.now) (λ room left n put. search rules)).none c.in-None.is in
    let h = l.0 in
    let s = l.1 in
    search (rules, text_kit)

pub returns-in-Some-clause-value : goal.returns-in-Some-clause-value
returns-in-Some-clause-value c =
    let l = (c.lay.ensures (text_of c.args.log.now) (λ room left n put. search rules)).some c.in-Some.n c.in-Some.is in
    let h = l.0 in
    let n = l.1 in
    search (rules, text_kit)

pub returns-in-Some-clause-text_after : goal.returns-in-Some-clause-text_after
returns-in-Some-clause-text_after c =
    let l = (c.lay.ensures (text_of c.args.log.now) (λ room left n put. search rules)).some c.in-Some.n c.in-Some.is in
    let h = l.0 in
    let s = l.2 in
    search (rules, text_kit)

-- Both files read and judged, then what is printed.
use Rattle.std.proofs.Common.{◌≡◌, length, arith, refl}
use Rattle.layout.specs.Layout.{result_length}
use Rattle.judge_files.proofs.OutputLaws.{rows_room, rows_out, refusal_out}
use Rattle.judge_files.proofs.run.Goals as goal

pub put_rows-length-requires : goal.put_rows-length-requires
put_rows-length-requires g c =
    let e : length c.judge_texts-answer.new.res ≡ result_length = omega arith in
    rows_room _ _ _ _ _ _ _ _ _ _ _ c.judge_texts-answer.ensures.run (c.if-is_accepted.ensures.0 refl) e

pub returns-then-is_accepted-clause-at_front : goal.returns-then-is_accepted-clause-at_front
returns-then-is_accepted-clause-at_front g c =
    let e : length c.args.output.now ≡ 65536 = omega arith in
    rows_out _ _ _ _ _ _ _ _ _ _ _ c.judge_texts-answer.ensures.run (c.if-is_accepted.ensures.0 refl) _ _ _ c.put_rows-length.ensures e

pub returns-else-is_accepted-clause-at_front : goal.returns-else-is_accepted-clause-at_front
returns-else-is_accepted-clause-at_front g c =
    let e : length c.args.output.now ≡ 65536 = omega arith in
    refusal_out _ _ _ c.judge_texts-answer.result _ _ _ (λ z. let f = c.if-is_accepted.ensures.1 z in cc) (omega arith) (omega arith) (omega arith)
    c.put_refusal-length.ensures e

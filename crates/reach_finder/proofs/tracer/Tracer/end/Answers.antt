use Rattle.std.proofs.Common.{◌∙◌, false, Result, Ok, Err, map}
use Rattle.std.specs.Prelude.{OnOk}
use Rattle.stream_ops.specs.Answers.{end_answer}
use Rattle.evaluation.specs.StageRows.{alike}
use Rattle.reach_finder.specs.Shades.{marking, shaded}
use Rattle.reach_finder.specs.Traced.{rows_in}
use Rattle.reach_finder.proofs.Tracing.{traced_are}
use Rattle.reach_finder.proofs.tracer.Tracer.end.Goals as goal

then : {A E : Type 0} {P Q : Type 0} → (r : Result A E) → (P → Q) → OnOk r P → OnOk r Q
then (Ok x) f p = f p
then (Err e) f p = tt

pub returns : goal.returns
returns c = then c.trace.result (λ whole before seen.
    let op = c.args.op.now in
    traced_are op false c.deref.result.now c.deref-2.result.now (end_answer op (alike (rows_in before))) (end_answer (marking op) (alike (map (shaded op) before)))
    c.args.out.now.items c.trace.new.out.items whole
    (c.deref.ensures.value ∙ c.in_ok-rows.ensures op (rows_in before) seen.rows)
    (c.deref-2.ensures.value ∙ c.in_ok-shades.ensures (marking op) (map (shaded op) before) seen.marks)) c.trace.ensures

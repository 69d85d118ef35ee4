use Rattle.std.proofs.Common.{◌∙◌, Result, Ok, Err, ap, map}
use Rattle.std.specs.Prelude.{OnOk}
use Rattle.tuple_edge.specs.declared.row.Row.{Row}
use Rattle.stream_ops.specs.Answers.{row_answer}
use Rattle.evaluation.specs.StageRows.{alike}
use Rattle.reach_finder.specs.Shades.{marking, shaded}
use Rattle.reach_finder.specs.Traced.{rows_in}
use Rattle.reach_finder.proofs.Tracing.{seen_more, traced_are}
use Rattle.reach_finder.proofs.tracer.Tracer.take.Goals as goal

then : {A E : Type 0} {P Q : Type 0} → (r : Result A E) → (P → Q) → OnOk r P → OnOk r Q
then (Ok x) f p = f p
then (Err e) f p = tt

pub returns-clause-answers : goal.returns-clause-answers
returns-clause-answers c = then c.trace.result (λ whole before seen.
    let op = c.args.op.now in
    let x = c.args.x.now in
    traced_are op x.reached c.deref.result.now c.deref-2.result.now (row_answer op (alike (rows_in before)) x.row) (row_answer (marking op) (alike (map (shaded op) before)) (shaded op x))
    c.args.out.now.items c.trace.new.out.items whole
    (c.deref.ensures.value ∙ c.in_ok-rows.ensures.answers op (rows_in before) seen.rows)
    (c.deref-2.ensures.value
    ∙ (c.in_ok-shades.ensures.answers (marking op) (map (shaded op) before) seen.marks ∙ ap (λ (s : Row). row_answer (marking op) (alike (map (shaded op) before)) s) c.shaded-shade.ensures))) c.trace.ensures

pub returns-clause-seen : goal.returns-clause-seen
returns-clause-seen c = then c.trace.result (λ whole before seen.
    let op = c.args.op.now in
    let x = c.args.x.now in
    seen_more op (record { rows = c.row_answers.new.state; marks = c.row_answers-2.new.state }) before x c.shaded-shade.result c.shaded-shade.ensures
    (c.in_ok-rows.ensures.taken op (rows_in before) seen.rows) (c.in_ok-shades.ensures.taken (marking op) (map (shaded op) before) seen.marks)) c.trace.ensures

use Rattle.std.proofs.Common.{◌++◌, ◌∙◌, List, ap}
use Rattle.tuple_edge.specs.declared.item.Item.TheVariants as item
use Rattle.tuple_edge.specs.declared.row.Row.{Row}
use Rattle.op_spec.specs.declared.spec.OpSpec.{OpSpec}
use Rattle.stream_ops.specs.Answers.{answer, end_answer}
use Rattle.evaluation.specs.StageRows.{alike}
use Rattle.evaluation.proofs.Taking.{alike_open}
use Rattle.reach_finder.proofs.tracer.end_answers.Goals as goal

pub returns : goal.returns
returns c = λ op before had.
    c.in_ok-step.ensures.answers (alike before) (alike_open before) had.stands
    ∙ (ap (λ (o : OpSpec). c.new-out.result.items ++ answer o (alike before) (item.End 0)) had.spec
    ∙ ap (λ (rows : List Row). rows ++ end_answer op (alike before)) c.new-out.ensures.items)

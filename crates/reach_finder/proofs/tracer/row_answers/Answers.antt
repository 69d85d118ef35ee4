use Rattle.std.proofs.Common.{◌++◌, ◌∙◌, List, ap, subst, sym}
use Rattle.tuple_edge.specs.declared.item.Item.TheVariants as item
use Rattle.tuple_edge.specs.declared.row.Row.{Row}
use Rattle.op_spec.specs.declared.spec.OpSpec.{OpSpec}
use Rattle.stream_ops.specs.Answers.{answer, row_answer}
use Rattle.stream_ops.specs.State.{StandsFor}
use Rattle.evaluation.specs.StageRows.{alike}
use Rattle.evaluation.proofs.Taking.{alike_more, alike_open}
use Rattle.reach_finder.proofs.tracer.row_answers.Goals as goal

pub returns-clause-answers : goal.returns-clause-answers
returns-clause-answers c = λ op before had.
    c.in_ok-step.ensures.answers (alike before) (alike_open before) had.stands
    ∙ (ap (λ (o : OpSpec). c.new-out.result.items ++ answer o (alike before) (item.Row 0 c.args.row)) had.spec
    ∙ ap (λ (rows : List Row). rows ++ row_answer op (alike before) c.args.row) c.new-out.ensures.items)

pub returns-clause-taken : goal.returns-clause-taken
returns-clause-taken c = λ op before had. record {
  spec = c.in_ok-step.ensures.spec ∙ had.spec;
  stands = subst (StandsFor c.step.new.self) (sym (alike_more before c.args.row)) (c.in_ok-step.ensures.stands (alike before) (alike_open before) had.stands);
}

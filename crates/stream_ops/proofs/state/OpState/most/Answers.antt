use Rattle.std.proofs.Common.{◌≤◌, ◌∙◌, length, ap, sym, subst, ℕ}
use Rattle.tuple_edge.specs.declared.item.Item.TheVariants as item
use Rattle.op_spec.specs.Spec.{most_rows}
use Rattle.stream_ops.specs.Answers.{answer}
use Rattle.stream_ops.specs.Kept.{keys_after}
use Rattle.stream_ops.specs.State.{StateView}
use Rattle.stream_ops.proofs.AnswerLaws.{length-answer_end, length-answer_row}
use Rattle.stream_ops.proofs.Standing.{keeps_now}
use Rattle.stream_ops.proofs.state.OpState.most.Goals as goal

pub returns-in-End-clause-value : goal.returns-in-End-clause-value
returns-in-End-clause-value c = λ before stood.
    rw c.in-End.is (c.key_count.ensures before (keeps_now c.self.inside.operator c.args.self.now before c.self.view_is c.self.invariant stood)
    ∙ ap (λ (s : StateView). length (keys_after s.spec before)) c.self.view_is)

pub returns-in-End-clause-enough : goal.returns-in-End-clause-enough
returns-in-End-clause-enough c = λ before unended stood.
    rw c.in-End.is (subst (λ (n : ℕ). length (answer c.args.self.now.spec before (item.End c.in-End.stamp)) ≤ n)
    (sym (c.key_count.ensures before (keeps_now c.self.inside.operator c.args.self.now before c.self.view_is c.self.invariant stood)
    ∙ ap (λ (s : StateView). length (keys_after s.spec before)) c.self.view_is))
    (length-answer_end c.args.self.now.spec before c.in-End.stamp))

pub returns-in-Row-clause-enough : goal.returns-in-Row-clause-enough
returns-in-Row-clause-enough c = λ before unended stood.
    rw c.in-Row.is (subst (λ (n : ℕ). length (answer c.args.self.now.spec before (item.Row c.in-Row.stamp c.in-Row.row)) ≤ n)
    (sym (c.most_rows.ensures ∙ ap (λ (s : StateView). most_rows s.spec) c.self.view_is)) (length-answer_row c.args.self.now.spec before c.in-Row.stamp c.in-Row.row))

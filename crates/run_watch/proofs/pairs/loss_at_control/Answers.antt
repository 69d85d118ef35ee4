use Rattle.std.proofs.Common.{◌∙◌}
use Rattle.flux_core.specs.CoreView.{flow_in}
use Rattle.run_watch.specs.Happenings.{loss}
use Rattle.run_watch.proofs.Losses.{both_known, control_loss}
use Rattle.run_watch.proofs.pairs.loss_at_control.Goals as goal

pub returns : goal.returns
returns c s t stands differ before after =
    let f = flow_in c.args.core.now in
    let stage = c.args.stage in
    let part = c.args.part in
    let a = c.in-Some-Some.a in
    let b = c.in-Some-Some.b in
    let next_a = c.in-Some-Some.next_a in
    let next_b = c.in-Some-Some.next_b in
    let was = both_known f s stage part c.args.before.now a b before c.in-Some-Some.ensures in
    let now = both_known f t stage part c.args.after.now next_a next_b after c.in-Some-Some.ensures' in
    c.loss.ensures
    ∙ (λ j. loss stage part (c.is_lost-was_lost.ensures j) (c.is_lost-now_lost.ensures j))
    ∙ control_loss f s t stage part differ a b next_a next_b c.runs-runs_a.result c.runs-runs_b.result was.0 was.1 now.0 now.1 (c.runs-runs_a.ensures t stands) (c.runs-runs_b.ensures t stands)

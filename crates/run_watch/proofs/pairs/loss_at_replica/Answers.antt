use Rattle.std.proofs.Common.{◌∙◌, ap}
use Rattle.tuple_edge.specs.declared.node.Which.TheVariants.{A, B}
use Rattle.flux_core.specs.CoreView.{flow_in}
use Rattle.run_watch.specs.Happenings.{loss}
use Rattle.run_watch.specs.Looks.{runs_as}
use Rattle.run_watch.proofs.Glimpsed.{control_glimpsed}
use Rattle.run_watch.proofs.Losses.{known_from, replica_loss, runs_in}
use Rattle.run_watch.proofs.pairs.loss_at_replica.Goals as goal

pub returns : goal.returns
returns c s t stands differ before after =
    let f = flow_in c.args.core.now in
    let stage = c.args.stage in
    let part = c.args.part in
    let control = control_glimpsed c.args.core.now stage part c.requires c.control-control.result.now c.control-control.ensures.value t stands in
    c.loss.ensures
    ∙ (λ j. loss stage part (c.is_lost_by-was_lost.ensures j) (c.is_lost_by-now_lost.ensures j))
    ∙ replica_loss f s t stage part c.args.which differ c.known-a.result c.known-b.result c.runs_as.result c.runs_as-2.result c.runs-partner.result
    (c.known-a.ensures ∙ known_from f t stage part c.control-control.result.now A control)
    (c.known-b.ensures ∙ known_from f t stage part c.control-control.result.now B control)
    (c.runs_as.ensures ∙ ap runs_as before)
    (c.runs_as-2.ensures ∙ ap runs_as after)
    (c.runs-partner.ensures t stands ∙ ap (λ w. runs_in f t stage part w) c.other.ensures)

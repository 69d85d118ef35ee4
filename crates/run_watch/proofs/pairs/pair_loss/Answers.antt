use Rattle.std.proofs.Common.{◌∙◌}
use Rattle.flux_core.specs.CoreView.{flow_in}
use Rattle.run_watch.proofs.Losses.{nothing_lost}
use Rattle.run_watch.proofs.pairs.pair_loss.Goals as goal

pub returns-then-is_same : goal.returns-then-is_same
returns-then-is_same c s t stands differ before after =
    nothing_lost (flow_in c.args.core.now) s t c.args.node c.args.before.now before (c.is_same.ensures c.if-is_same.true ∙ after) differ

use Rattle.std.proofs.Common.{◌∙◌}
use Rattle.run_watch.proofs.Glimpsed.{control_glimpsed}
use Rattle.run_watch.proofs.looking.control_glimpse.Goals as goal

pub returns : goal.returns
returns c s stands = c.seen.ensures ∙ control_glimpsed c.args.core.now c.args.stage c.args.part c.requires c.control.result.now c.control.ensures.value s stands

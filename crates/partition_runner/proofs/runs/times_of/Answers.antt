use Rattle.std.proofs.Common.{subst}
use Rattle.node_tasks.specs.Timely.{AreTimely}
use Rattle.partition_runner.proofs.Timely.{are_timely}
use Rattle.partition_runner.proofs.runs.times_of.Goals as goal

pub returns : goal.returns
returns g c = subst AreTimely c.requires (are_timely c.args.trades.now c.rows-rows.ensures.limits)

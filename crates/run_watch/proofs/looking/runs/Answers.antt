use Rattle.std.proofs.Common.{◌∙◌, Some, ap}
use Rattle.run_watch.specs.Looks.{runs_as}
use Rattle.run_watch.proofs.Glimpsed.{gathering_runs, gone_runs, replica_glimpsed, running_runs}
use Rattle.run_watch.proofs.looking.runs.Goals as goal

pub returns-in-Running : goal.returns-in-Running
returns-in-Running c s stands =
    ap Some c.inc.ensures ∙ running_runs c.replica-replica.result.now.phase c.in-Running.ensures
    ∙ ap runs_as (replica_glimpsed c.args.core.now c.args.stage c.args.part c.requires c.args.which c.replica-replica.result.now c.replica-replica.ensures s stands)

pub returns-in-Gathering : goal.returns-in-Gathering
returns-in-Gathering c s stands =
    gathering_runs c.replica-replica.result.now.phase c.in-Gathering.ensures
    ∙ ap runs_as (replica_glimpsed c.args.core.now c.args.stage c.args.part c.requires c.args.which c.replica-replica.result.now c.replica-replica.ensures s stands)

pub returns-in-Gone : goal.returns-in-Gone
returns-in-Gone c s stands =
    gone_runs c.replica-replica.result.now.phase c.in-Gone.ensures
    ∙ ap runs_as (replica_glimpsed c.args.core.now c.args.stage c.args.part c.requires c.args.which c.replica-replica.result.now c.replica-replica.ensures s stands)

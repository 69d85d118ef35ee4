use Rattle.std.proofs.Common.{◌∙◌, ap}
use Rattle.run_watch.specs.Glimpses.{mode_of}
use Rattle.run_watch.proofs.Glimpsed.{gathers_seen, gone_seen, replica_glimpsed}
use Rattle.run_watch.proofs.looking.mode_at.Goals as goal

pub returns-in-Running : goal.returns-in-Running
returns-in-Running c s stands =
    c.mode_running.ensures
    ∙ ap mode_of (replica_glimpsed c.args.core.now c.args.stage c.args.part c.requires c.args.which c.replica-replica.result.now c.replica-replica.ensures s stands)

pub returns-in-Gathering : goal.returns-in-Gathering
returns-in-Gathering c s stands =
    gathers_seen c.replica-replica.result.now.phase c.in-Gathering.ensures
    ∙ ap mode_of (replica_glimpsed c.args.core.now c.args.stage c.args.part c.requires c.args.which c.replica-replica.result.now c.replica-replica.ensures s stands)

pub returns-in-Gone : goal.returns-in-Gone
returns-in-Gone c s stands =
    ap mode_of (gone_seen c.replica-replica.result.now.phase c.in-Gone.ensures)
    ∙ ap mode_of (replica_glimpsed c.args.core.now c.args.stage c.args.part c.requires c.args.which c.replica-replica.result.now c.replica-replica.ensures s stands)

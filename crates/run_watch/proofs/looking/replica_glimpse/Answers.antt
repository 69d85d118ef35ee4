use Rattle.std.proofs.Common.{◌∙◌, ap}
use Rattle.plan_reader.specs.Nodes.{sources_of}
use Rattle.flux_core.proofs.NodeActs.{if_ok-map}
use Rattle.run_watch.specs.declared.glimpse.Glimpse.TheVariants as glimpse
use Rattle.run_watch.proofs.Glimpsed.{gone_seen, replica_edges, replica_glimpsed}
use Rattle.run_watch.proofs.looking.replica_glimpse.Goals as goal

pub gathering-requires-clause-edges : goal.gathering-requires-clause-edges
gathering-requires-clause-edges c =
    replica_edges c.args.core.now c.args.stage c.args.part c.requires c.known.ensures c.args.which c.replica-replica.result.now c.sources-edges.result c.replica-replica.ensures
    (c.sources-edges.ensures ∙ ap (λ p. sources_of p c.args.stage) c.plan.ensures)

pub returns-in-Running : goal.returns-in-Running
returns-in-Running c s stands =
    c.running.ensures ∙ replica_glimpsed c.args.core.now c.args.stage c.args.part c.requires c.args.which c.replica-replica.result.now c.replica-replica.ensures s stands

pub returns-in-Gone : goal.returns-in-Gone
returns-in-Gone c s stands =
    ap glimpse.Gone c.inc.ensures ∙ gone_seen c.replica-replica.result.now.phase c.in-Gone.ensures
    ∙ replica_glimpsed c.args.core.now c.args.stage c.args.part c.requires c.args.which c.replica-replica.result.now c.replica-replica.ensures s stands

pub returns-in-Gathering : goal.returns-in-Gathering
returns-in-Gathering c =
    if_ok-map c.gathering.result _ _
    (λ g h s stands. h ∙ replica_glimpsed c.args.core.now c.args.stage c.args.part c.requires c.args.which c.replica-replica.result.now c.replica-replica.ensures s stands) c.gathering.ensures

use Rattle.trio_machine.specs.declared.node.TrioNode.TheVariants as node
use Rattle.trio_core.proofs.Opened.{more_again}
use Rattle.trio_core.proofs.opening.add_group.Goals as goal

pub returns-clause-more : goal.returns-clause-more
returns-clause-more c =
    more_again c.args.plan.now c.args.stations.now.items c.add_replicas.new.stations.items c.add_control.new.stations.items c.in_ok-add_replicas.ensures.more c.in_ok-add_control.ensures.more

pub returns-clause-there : goal.returns-clause-there
returns-clause-there c = record {
  replica = λ k l. c.in_ok-add_control.ensures.more.stays (node.Replica c.args.stage c.args.part k) (c.in_ok-add_replicas.ensures.there k l);
  control = c.in_ok-add_control.ensures.there;
}

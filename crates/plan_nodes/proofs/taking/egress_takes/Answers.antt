use Rattle.plan_nodes.proofs.Acting.{egress_takes}
use Rattle.plan_nodes.proofs.taking.egress_takes.Goals as goal

pub returns-clause-taken : goal.returns-clause-taken
returns-clause-taken c = egress_takes c.args.node.now c.on.new.self c.args.from c.args.packet.now c.in_ok-on.ensures.course c.on.ensures.of_plan c.on.ensures.emitted c.on.ensures.gone

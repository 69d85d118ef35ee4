use Rattle.plan_nodes.proofs.Acting.{ingress_takes}
use Rattle.plan_nodes.proofs.taking.ingress_takes.Goals as goal

pub returns-clause-taken : goal.returns-clause-taken
returns-clause-taken c = let e = c.on.ensures in ingress_takes c.args.node.now c.on.new.self c.args.from c.args.packet.now e.taken e.course e.of_plan

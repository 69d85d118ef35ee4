use Rattle.plan_nodes.proofs.Acting.{control_takes}
use Rattle.plan_nodes.proofs.taking.control_takes.Goals as goal

pub returns-clause-taken : goal.returns-clause-taken
returns-clause-taken c = let e = c.on.ensures in control_takes c.args.node.now c.on.new.self c.args.from c.args.packet.now c.args.out.now.packets c.on.new.out.packets e.packets e.course e.few.0 e.linked e.id e.of_plan

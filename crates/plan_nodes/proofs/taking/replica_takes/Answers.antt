use Rattle.plan_nodes.proofs.Acting.{replica_takes}
use Rattle.plan_nodes.proofs.taking.replica_takes.Goals as goal

pub returns-clause-taken : goal.returns-clause-taken
returns-clause-taken c = let e = c.on.ensures in replica_takes c.args.node.now c.on.new.self c.args.from c.args.packet.now c.args.out.now.packets c.on.new.out.packets e.packets c.in_ok-on.ensures.course e.few e.linked e.role

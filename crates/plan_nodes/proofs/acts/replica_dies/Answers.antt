use Rattle.std.proofs.Common.{ap, arith, refl}
use Rattle.replica_node.specs.ReplicaView.{ReplicaView}
use Rattle.replica_node.specs.Rules.{down_sent}
use Rattle.node_tasks.specs.declared.task.Task.TheVariants as task
use Rattle.plan_nodes.proofs.Acting.{replica_does}
use Rattle.plan_nodes.proofs.acts.replica_dies.Goals as goal

pub returns-clause-acted : goal.returns-clause-acted
returns-clause-acted c = let e = c.kill.ensures in let old = c.args.node.now in replica_does old c.kill.new.self task.Kill c.args.out.now.packets c.kill.new.out.packets (down_sent old)
    e.packets refl refl e.course (omega arith) e.linked (ap (λ (v : ReplicaView). v.role) e.gone)

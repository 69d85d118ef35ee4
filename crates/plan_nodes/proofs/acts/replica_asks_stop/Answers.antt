use Rattle.std.proofs.Common.{ap, arith, refl}
use Rattle.replica_node.specs.ReplicaView.{ReplicaView}
use Rattle.replica_node.specs.Rules.{stop_asked}
use Rattle.node_tasks.specs.declared.task.Task.TheVariants as task
use Rattle.plan_nodes.proofs.Acting.{replica_does}
use Rattle.plan_nodes.proofs.acts.replica_asks_stop.Goals as goal

pub returns-clause-acted : goal.returns-clause-acted
returns-clause-acted c = let e = c.ask_stop.ensures in let old = c.args.node.now in replica_does old c.ask_stop.new.self task.AskStop c.args.out.now.packets c.ask_stop.new.out.packets (stop_asked old)
    e.packets refl refl e.course (omega arith) e.linked (ap (λ (v : ReplicaView). v.role) e.unchanged)

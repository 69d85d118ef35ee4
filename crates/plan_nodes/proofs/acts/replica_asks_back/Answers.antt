use Rattle.std.proofs.Common.{ap, arith, refl}
use Rattle.replica_node.specs.ReplicaView.{ReplicaView}
use Rattle.replica_node.specs.Rules.{back_asked}
use Rattle.node_tasks.specs.declared.task.Task.TheVariants as task
use Rattle.plan_nodes.proofs.Acting.{back_at, replica_does}
use Rattle.plan_nodes.proofs.acts.replica_asks_back.Goals as goal

pub returns-clause-acted : goal.returns-clause-acted
returns-clause-acted c = let e = c.ask_back.ensures in let old = c.args.node.now in replica_does old c.ask_back.new.self task.AskBack c.args.out.now.packets c.ask_back.new.out.packets (back_asked old)
    e.packets (back_at old) refl e.course (omega arith) e.linked (ap (λ (v : ReplicaView). v.role) e.unchanged)

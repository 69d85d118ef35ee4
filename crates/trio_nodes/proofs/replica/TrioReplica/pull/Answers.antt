use Rattle.std.proofs.Common.{subst, sym}
use Rattle.partition_step.proofs.Emitting.{on_ok}
use Rattle.pair_machine.specs.Consumers.{pulled}
use Rattle.trio_machine.specs.Numbers.{ReplicaNode, Running}
use Rattle.trio_nodes.specs.Replica.{StandsFor}
use Rattle.trio_nodes.proofs.ReplicaSteps.{pull_stands}
use Rattle.trio_nodes.proofs.replica.TrioReplica.pull.Goals as goal

pub returns-clause-stands : goal.returns-clause-stands
returns-clause-stands c = on_ok c.take_next.result _ _
    (λ e plan inputs x n is s runs item. subst (λ z. StandsFor plan inputs z (ReplicaNode (Running (record x { consumer = pulled x.consumer c.args.edge })))) (sym e)
    (pull_stands plan inputs c.args.self.now c.args.edge c.args.item c.requires.edge x n s runs item))
    c.take_next.ensures.taken

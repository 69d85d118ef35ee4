use Rattle.std.proofs.Common.{[], subst, sym}
use Rattle.partition_step.proofs.Emitting.{on_ok}
use Rattle.trio_nodes.specs.Replica.{StandsFor}
use Rattle.trio_nodes.specs.ReplicaView.{node_of}
use Rattle.trio_nodes.specs.Steps.{IsTaken}
use Rattle.trio_nodes.proofs.ReplicaSteps.{take_step}
use Rattle.trio_nodes.proofs.replica.TrioReplica.on.Goals as goal

pub returns-clause-step : goal.returns-clause-step
returns-clause-step c = on_ok c.take.result _ _
    (λ e plan inputs. subst (λ z. IsTaken plan inputs (node_of c.args.self.now.role) (StandsFor plan inputs c.args.self.now) (StandsFor plan inputs z) c.args.from c.args.body.now []) (sym e)
    (take_step plan inputs c.args.self.now c.args.from c.args.body.now c.requires.admitted))
    c.take.ensures.taken

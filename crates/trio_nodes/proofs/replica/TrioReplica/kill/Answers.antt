use Rattle.std.proofs.Common.{None, ap, subst, sym}
use Rattle.trio_machine.specs.Messages.{Dies}
use Rattle.trio_nodes.specs.Replica.{StandsFor}
use Rattle.trio_nodes.specs.ReplicaView.{ReplicaView, down_sent, node_of}
use Rattle.trio_nodes.specs.Steps.{IsStep}
use Rattle.trio_nodes.proofs.ReplicaLinks.{down_linked}
use Rattle.trio_nodes.proofs.ReplicaSteps.{kill_step}
use Rattle.trio_nodes.proofs.replica.TrioReplica.kill.Goals as goal

pub returns-clause-linked : goal.returns-clause-linked
returns-clause-linked c = λ plan here copy. down_linked plan c.args.self.now.role here copy

pub returns-clause-step : goal.returns-clause-step
returns-clause-step c = λ plan inputs.
    subst (λ (z : ReplicaView). IsStep plan inputs (node_of c.args.self.now.role) (StandsFor plan inputs c.args.self.now) (StandsFor plan inputs z) Dies (down_sent c.args.self.now.role))
    (λ i. record { role = ap (λ (v : ReplicaView). v.role) (sym c.self.view_is) i; running = None })
    (kill_step plan inputs c.args.self.now c.requires.runs)

use Rattle.std.proofs.Common.{ap, refl}
use Rattle.plan_nodes.specs.declared.state.NodeState.TheVariants as state
use Rattle.replica_node.specs.ReplicaView.{node_of}
use Rattle.flux_core.proofs.NodeActs.{has_pulled, replica_pulled}
use Rattle.flux_core.proofs.acts.replica_pulls.Goals as goal

pub returns : goal.returns
returns c = has_pulled (state.Replica c.args.node.now) (state.Replica c.pull.new.self) c.args.edge c.args.item
    (λ plan. replica_pulled plan c.args.node.now c.pull.new.self c.args.edge c.args.item c.in_ok-pull.ensures.role (λ rows x n. c.in_ok-pull.ensures.stands plan rows x n)) (ap node_of c.in_ok-pull.ensures.role) refl refl refl

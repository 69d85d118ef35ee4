use Rattle.std.proofs.Common.{[], subst, sym}
use Rattle.plan_nodes.specs.declared.state.NodeState.{NodeState}
use Rattle.plan_nodes.specs.declared.state.NodeState.TheVariants as state
use Rattle.flux_core.specs.Acts.{HasAnswered}
use Rattle.flux_core.specs.declared.asked.Asked.TheVariants as asked
use Rattle.flux_core.proofs.acts.node_pulls.Goals as goal

pub returns-in-Replica : goal.returns-in-Replica
returns-in-Replica c = subst (λ (s : NodeState). HasAnswered s (state.Replica c.replica_pulls.new.node) (asked.Pull c.args.edge c.args.item) c.replica_pulls.result [] []) (sym c.in-Replica.is) c.replica_pulls.ensures

pub returns-in-Egress : goal.returns-in-Egress
returns-in-Egress c = subst (λ (s : NodeState). HasAnswered s (state.Egress c.egress_pulls.new.node) (asked.Pull c.args.edge c.args.item) c.egress_pulls.result [] []) (sym c.in-Egress.is) c.egress_pulls.ensures

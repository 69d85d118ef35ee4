-- Which kind of node stands under a name.
use Rattle.std.proofs.Common.{◌≡◌, List, Option, None, Some, refl}
use Rattle.tuple_edge.specs.Input.{Input}
use Rattle.tuple_edge.specs.declared.node.NodeId.TheVariants as node
use Rattle.plan_reader.specs.PlanView.{PlanView}
use Rattle.pair_control.specs.StandsFor as control
use Rattle.pair_machine.specs.Numbers.{Node}
use Rattle.ingress_egress.specs.EgressStands as egress
use Rattle.ingress_egress.specs.EgressView.{EgressView}
use Rattle.ingress_egress.specs.IngressStands as ingress
use Rattle.ingress_egress.specs.IngressView.{IngressView}
use Rattle.replica_node.specs.ReplicaView.{node_of}
use Rattle.plan_nodes.specs.declared.state.NodeState.{NodeState}
use Rattle.plan_nodes.specs.declared.state.NodeState.TheVariants as state
use Rattle.flux_core.specs.Stands.{ContentStands}

module _ (plan : PlanView) (inputs : List Input) where
  pub ingress_there : (o : Option NodeState) (x : Node) → ContentStands plan inputs node.Ingress o x → (i : IngressView) × (o ≡ Some (state.Ingress i)) × ingress.StandsFor plan inputs i x
  ingress_there None x h = absurd h
  ingress_there (Some (state.Ingress i)) x h = (i, refl, h.1)
  ingress_there (Some (state.Replica v)) x h = let z : node_of v.role ≡ node.Ingress = h.0 in absurd (cc z)
  ingress_there (Some (state.Control c)) x h = let z : control.node_of c ≡ node.Ingress = h.0 in absurd (cc z)
  ingress_there (Some (state.Egress e)) x h = let z : node.Egress ≡ node.Ingress = h.0 in absurd (cc z)

  pub egress_there : (o : Option NodeState) (x : Node) → ContentStands plan inputs node.Egress o x → (e : EgressView) × (o ≡ Some (state.Egress e)) × egress.StandsFor plan inputs e x
  egress_there None x h = absurd h
  egress_there (Some (state.Ingress i)) x h = let z : node.Ingress ≡ node.Egress = h.0 in absurd (cc z)
  egress_there (Some (state.Replica v)) x h = let z : node_of v.role ≡ node.Egress = h.0 in absurd (cc z)
  egress_there (Some (state.Control c)) x h = let z : control.node_of c ≡ node.Egress = h.0 in absurd (cc z)
  egress_there (Some (state.Egress e)) x h = (e, refl, h.1)

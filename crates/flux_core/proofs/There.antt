-- An event that names what the plan has is one of the machine.
use Rattle.std.proofs.Common.{◌≡◌, ◌+◌, ◌&&◌, true, List, length, refl, sym, eqb-true, arith}
use Rattle.tuple_edge.specs.Input.{Input}
use Rattle.tuple_edge.specs.declared.event.Event.{Event}
use Rattle.tuple_edge.specs.declared.event.Event.TheVariants as event
use Rattle.tuple_edge.specs.declared.node.LinkId.{LinkId}
use Rattle.tuple_edge.specs.declared.node.NodeId.{NodeId}
use Rattle.tuple_edge.specs.declared.node.NodeId.TheVariants as node
use Rattle.plan_reader.specs.Nodes.{carries_any, carries_items, has_link, has_node, has_replica, is_replica, names_event}
use Rattle.plan_reader.specs.PlanView.{IsPlan, PlanView}
use Rattle.pair_machine.specs.Counts.{flow_of}
use Rattle.pair_machine.specs.Links.{HasEdge, HasNode, IsThere}
use Rattle.pair_machine.proofs.PlanFlow.{plan_is_flow}
use Rattle.pair_machine.proofs.PlanNodes.{nodes_named}
use Rattle.pair_machine.proofs.Tests.{both}

module _ (plan : PlanView) (inputs : List Input) where
  has : (n : NodeId) → has_node plan n ≡ true → HasNode (flow_of plan inputs) n
  has n e = (nodes_named plan inputs n).there e

  replica_has : (n : NodeId) → has_replica plan n ≡ true → HasNode (flow_of plan inputs) n
  replica_has n e = has n (both (is_replica n) (has_node plan n) e).1

  edge_has : IsPlan plan → (from to : NodeId) → HasNode (flow_of plan inputs) from → HasNode (flow_of plan inputs) to → carries_items plan from to ≡ true → HasEdge (flow_of plan inputs) from to
  unfolding flow_of
  edge_has p node.Ingress node.Ingress a b e = let z : ⊥ = cc e in absurd z
  edge_has p node.Ingress (node.Control s q) a b e = let z : ⊥ = cc e in absurd z
  edge_has p node.Ingress node.Egress a b e =
      let z = eqb-true (length plan.stages + 1) (0 + 1) e in
      let some = p.some in absurd (omega arith)
  edge_has p node.Ingress (node.Replica s q w) a b e =
      let z : s ≡ 0 + 1 = eqb-true s (0 + 1) e in
      (record { stage = 0; from = 0; to = q }, (refl, (plan_is_flow plan inputs p).first_sources.0), (sym z, refl))
  edge_has p (node.Control s q) to a b e = let z : ⊥ = cc e in absurd z
  edge_has p node.Egress to a b e = let z : ⊥ = cc e in absurd z
  edge_has p (node.Replica s q w) node.Ingress a b e = let z : ⊥ = cc e in absurd z
  edge_has p (node.Replica s q w) (node.Control t r) a b e = let z : ⊥ = cc e in absurd z
  edge_has p (node.Replica s q w) (node.Replica t r v) a b e =
      (record { stage = s; from = q; to = r }, (a.0.0, refl, refl), (sym (eqb-true t (s + 1) e), refl))
  edge_has p (node.Replica s q w) node.Egress a b e =
      let z : length plan.stages + 1 ≡ s + 1 = eqb-true (length plan.stages + 1) (s + 1) e in
      (record { stage = s; from = q; to = 0 }, (a.0.0, refl, refl), (omega (arith, z), refl))

pub there : (plan : PlanView) (inputs : List Input) → IsPlan plan → (e : Event) → names_event plan e ≡ true → IsThere (flow_of plan inputs) e
there plan inputs p (event.Take l k) e = let ends = both (has_node plan l.from) (has_node plan l.to) (both (has_node plan l.from && has_node plan l.to) (carries_any plan l.from l.to) e).0 in has plan inputs l.to ends.1
there plan inputs p (event.Work n) e = has plan inputs n e
there plan inputs p event.Make e = tt
there plan inputs p (event.Kill n) e = replica_has plan inputs n e
there plan inputs p (event.AskStop n) e = replica_has plan inputs n e
there plan inputs p (event.AskBack n) e = replica_has plan inputs n e
there plan inputs p (event.Pull from to) e =
    let z = both (has_node plan from && has_node plan to) (carries_items plan from to) e in
    let ends = both (has_node plan from) (has_node plan to) z.0 in
    (has plan inputs from ends.0, has plan inputs to ends.1, edge_has plan inputs p from to (has plan inputs from ends.0) (has plan inputs to ends.1) z.1)

-- the sender of a link that is named is one too
pub sender_there : (plan : PlanView) (inputs : List Input) (l : LinkId) → has_link plan l ≡ true → HasNode (flow_of plan inputs) l.from
sender_there plan inputs l e = has plan inputs l.from (both (has_node plan l.from) (has_node plan l.to) (both (has_node plan l.from && has_node plan l.to) (carries_any plan l.from l.to) e).0).0

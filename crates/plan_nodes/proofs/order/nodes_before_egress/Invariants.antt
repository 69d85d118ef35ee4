use Rattle.std.proofs.Common.{◌≡◌, ◌∷◌, take}
use Rattle.tuple_edge.specs.declared.node.NodeId.TheVariants as node
use Rattle.plan_nodes.specs.NodeOrder.{stages_nodes}
use Rattle.plan_nodes.proofs.order.nodes_before_egress.Given as goal

abbrev pub invariant-loop-place : goal.invariant-loop-place
invariant-loop-place l = l.ids.items ≡ node.Ingress ∷ stages_nodes 1 (take l.place l.stages)

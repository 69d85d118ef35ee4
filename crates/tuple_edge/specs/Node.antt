-- Nodes: partners, the node of an event, and their order.
use Rattle.std.specs.Prelude.{ℕ}
use Rattle.std.specs.declared.cmp.Ordering.{Ordering}
use Rattle.std.specs.Ordering.{nat_cmp, on, then_cmp}
use Rattle.tuple_edge.specs.declared.event.Event.{Event}
use Rattle.tuple_edge.specs.declared.event.Event.TheVariants as event
use Rattle.tuple_edge.specs.declared.node.Which.{Which}
use Rattle.tuple_edge.specs.declared.node.Which.TheVariants as which
use Rattle.tuple_edge.specs.declared.node.NodeId.{NodeId}
use Rattle.tuple_edge.specs.declared.node.NodeId.TheVariants as node

-- the other replica of a pair
abbrev pub other : Which → Which
other which.A = which.B
other which.B = which.A

-- the other replica of a replica's pair; another node is its own partner
abbrev pub partner_node : NodeId → NodeId
partner_node node.Ingress = node.Ingress
partner_node (node.Replica stage part which) = node.Replica stage part (other which)
partner_node (node.Control stage part) = node.Control stage part
partner_node node.Egress = node.Egress

-- the one node that an event changes
abbrev pub at_node : Event → NodeId
at_node (event.Take l k) = l.to
at_node (event.Work n) = n
at_node event.Make = node.Ingress
at_node (event.Kill n) = n
at_node (event.AskStop n) = n
at_node (event.AskBack n) = partner_node n
at_node (event.Pull from to) = to

-- ingress, then the pairs, then egress
abbrev pub group_of : NodeId → ℕ
group_of node.Ingress = 0
group_of (node.Replica stage part which) = 1
group_of (node.Control stage part) = 1
group_of node.Egress = 2

-- the stage of a node of a pair; of another node 0
abbrev pub stage_of : NodeId → ℕ
stage_of node.Ingress = 0
stage_of (node.Replica stage part which) = stage
stage_of (node.Control stage part) = stage
stage_of node.Egress = 0

-- the partition of a node of a pair; of another node 0
abbrev pub part_of : NodeId → ℕ
part_of node.Ingress = 0
part_of (node.Replica stage part which) = part
part_of (node.Control stage part) = part
part_of node.Egress = 0

-- replica A, and then replica B
abbrev pub rank_of_which : Which → ℕ
rank_of_which which.A = 0
rank_of_which which.B = 1

-- in a pair replica A, replica B, the controller
abbrev pub rank_of : NodeId → ℕ
rank_of node.Ingress = 0
rank_of (node.Replica stage part which) = rank_of_which which
rank_of (node.Control stage part) = 2
rank_of node.Egress = 0

-- the order of nodes
abbrev pub node_cmp : NodeId → NodeId → Ordering
node_cmp = then_cmp (on group_of nat_cmp) (then_cmp (on stage_of nat_cmp) (then_cmp (on part_of nat_cmp) (on rank_of nat_cmp)))

-- What a plan has where its partitions run as groups: nodes, edges and links. They are those of pairs, with three replicas for two, as
-- far as groups have messages for them.
use Rattle.std.specs.Prelude.{Bool, true, false, ◌&&◌, ◌||◌, nat_lt}
use Rattle.tuple_edge.specs.declared.node.NodeId.{NodeId}
use Rattle.tuple_edge.specs.declared.node.NodeId.TheVariants as pair
use Rattle.tuple_edge.specs.declared.node.Which.TheVariants as which
use Rattle.plan_reader.specs.Nodes.{carries_acknowledgements, carries_items, carries_orders, carries_reports, has_node}
use Rattle.plan_reader.specs.PlanView.{PlanView}
use Rattle.trio_machine.specs.Numbers.{group_size}
use Rattle.trio_machine.specs.declared.node.TrioNode.{TrioNode}
use Rattle.trio_machine.specs.declared.node.TrioNode.TheVariants as node

-- ---- nodes

-- the node of pairs in whose place a node of groups stands; for each replica it is the first of the pair
abbrev pub place_of : TrioNode → NodeId
place_of node.Ingress = pair.Ingress
place_of (node.Replica stage part copy) = pair.Replica stage part which.A
place_of (node.Control stage part) = pair.Control stage part
place_of node.Egress = pair.Egress

-- of the replicas of a group there are three
abbrev pub is_one_of_group : TrioNode → Bool
is_one_of_group node.Ingress = true
is_one_of_group (node.Replica stage part copy) = nat_lt copy group_size
is_one_of_group (node.Control stage part) = true
is_one_of_group node.Egress = true

-- whether a plan has a node: ingress, for each partition three replicas and a controller, and egress
abbrev pub has_trio_node : PlanView → TrioNode → Bool
has_trio_node plan n = is_one_of_group n && has_node plan (place_of n)

-- whether a node is one of the replicas of a group
abbrev pub is_trio_replica : TrioNode → Bool
is_trio_replica node.Ingress = false
is_trio_replica (node.Replica stage part copy) = true
is_trio_replica (node.Control stage part) = false
is_trio_replica node.Egress = false

-- whether a plan has this node, and it is a replica
abbrev pub has_trio_replica : PlanView → TrioNode → Bool
has_trio_replica plan n = is_trio_replica n && has_trio_node plan n

-- ---- links

-- whether an edge of a plan leads from one node to another
abbrev pub has_trio_edge : PlanView → TrioNode → TrioNode → Bool
has_trio_edge plan from to = has_trio_node plan from && has_trio_node plan to && carries_items plan (place_of from) (place_of to)

-- whether something goes between the places of two nodes: items, acknowledgements, reports and notices of failures, or orders
abbrev pub carries_some : PlanView → NodeId → NodeId → Bool
carries_some plan from to = carries_items plan from to || carries_acknowledgements plan from to || carries_reports from to || carries_orders from to

-- whether a plan has a link: both its ends are nodes of the plan, and something goes from the one to the other
abbrev pub has_trio_link : PlanView → TrioNode → TrioNode → Bool
has_trio_link plan from to = has_trio_node plan from && has_trio_node plan to && carries_some plan (place_of from) (place_of to)

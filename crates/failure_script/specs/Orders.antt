-- What the orders of a script say of nodes, and when they are due.
use Rattle.std.specs.Prelude.{ℕ, Bool, true, false, not, ◌≡◌, ◌≤◌, ◌&&◌, ◌||◌, ◌==◌, nat_le, List, [], ◌∷◌, Option, Some, None, IfSome}
use Rattle.std.specs.List.{find, list_any}
use Rattle.tuple_edge.specs.declared.node.NodeId.{NodeId}
use Rattle.tuple_edge.specs.declared.node.NodeId.TheVariants as node
use Rattle.plan_reader.specs.Nodes.{has_node, is_replica}
use Rattle.plan_reader.specs.PlanView.{PlanView}
use Rattle.pair_machine.specs.Lists.{Among}
use Rattle.pair_machine.specs.Numbers.{is_node, other}
use Rattle.pair_machine.specs.declared.order.Order.{Order}
use Rattle.failure_script.specs.Limits.{max_items}
use Rattle.failure_script.specs.declared.script.DueNow.{DueNow}

-- ---- orders of a plan

-- a number of items that an order may say
abbrev pub IsItems : ℕ → Type 0
IsItems n = (1 ≤ n) × (n ≤ max_items)

-- an order within its limits, for a replica of the plan
pub record IsOrderOf (plan : PlanView) (o : Order) : Type 0 where
  pub there : has_node plan o.node ≡ true
  pub replica : is_replica o.node ≡ true
  pub at : IsItems o.at
  pub back : IfSome o.back IsItems

-- whether an order is one for this node
abbrev pub is_for : NodeId → Order → Bool
is_for n o = is_node o.node n

-- ---- safe scripts

-- whether two nodes are replicas of one pair
abbrev pub are_of_one_pair : NodeId → NodeId → Bool
are_of_one_pair (node.Replica stage part which) (node.Replica of_stage of_part of_which) = (stage == of_stage) && (part == of_part)
are_of_one_pair one another = false

-- whether two orders are of one pair, and one of them is a kill
abbrev pub are_unsafe : Order → Order → Bool
are_unsafe x y = are_of_one_pair x.node y.node && (x.kill || y.kill)

-- whether no two of these orders are so
unfoldable pub are_safe : List Order → Bool
are_safe [] = true
are_safe (x ∷ orders) = not (list_any (are_unsafe x) orders) && are_safe orders

-- ---- what is due

-- the order for a node
abbrev pub order_for : List Order → NodeId → Option Order
order_for script n = find (is_for n) script

-- the partner of a replica
abbrev pub partner_of : NodeId → Option NodeId
partner_of (node.Replica stage part which) = Some (node.Replica stage part (other which))
partner_of n = None

-- the order for a replica's partner
abbrev pub order_for_partner : List Order → NodeId → Option Order
order_for_partner script (node.Replica stage part which) = order_for script (node.Replica stage part (other which))
order_for_partner script n = None

-- whether an order of this kind is due after so many items
abbrev pub is_due : Bool → ℕ → Option Order → Bool
is_due kill count None = false
is_due false count (Some o) = not o.kill && nat_le o.at count
is_due true count (Some o) = o.kill && nat_le o.at count

-- whether a number of items is reached, where there is one
abbrev pub is_reached : ℕ → Option ℕ → Bool
is_reached count None = false
is_reached count (Some n) = nat_le n count

-- whether the replica of an order is due back after so many items of its partner
abbrev pub is_back_due : ℕ → Option Order → Bool
is_back_due count None = false
is_back_due count (Some o) = is_reached count o.back

-- what is due at a node that has merged so many items
abbrev pub due_for : List Order → NodeId → ℕ → DueNow
due_for script n count = record {
  stop = is_due false count (order_for script n);
  kill = is_due true count (order_for script n);
  back = is_back_due count (order_for_partner script n);
}

-- ---- what the machine asks of an event within a script

-- an order lets a node fail, or ask that it be stopped, once it has merged so many items
abbrev pub IsOrdered : List Order → NodeId → Bool → ℕ → Type 0
IsOrdered script n kill count = (o : Order) × Among o script × (o.node ≡ n) × (o.kill ≡ kill) × (o.at ≤ count)

-- an order lets a node be asked back, once its partner has merged so many items
abbrev pub IsOrderedBack : List Order → NodeId → ℕ → Type 0
IsOrderedBack script n count = (o : Order) × Among o script × (o.node ≡ n) × (back : ℕ) × (o.back ≡ Some back) × (back ≤ count)

-- the same of a node's partner
abbrev pub IsPartnerOrderedBack : List Order → NodeId → ℕ → Type 0
IsPartnerOrderedBack script n count = (partner : NodeId) × (partner_of n ≡ Some partner) × IsOrderedBack script partner count

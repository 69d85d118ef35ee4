-- The nodes of a plan, and the links between them.
use Rattle.std.specs.Prelude.{ℕ, Bool, true, false, ◌+◌, ◌-◌, ◌==◌, ◌&&◌, ◌||◌, nat_lt, nat_le, length, slice_index}
use Rattle.tuple_edge.specs.declared.event.Event.{Event}
use Rattle.tuple_edge.specs.declared.event.Event.TheVariants as event
use Rattle.tuple_edge.specs.declared.node.LinkId.{LinkId}
use Rattle.tuple_edge.specs.declared.node.NodeId.{NodeId}
use Rattle.tuple_edge.specs.declared.node.NodeId.TheVariants as node
use Rattle.tuple_edge.specs.declared.node.Which.{Which}
use Rattle.tuple_edge.specs.declared.node.Which.TheVariants as which
use Rattle.plan_reader.specs.PlanView.{PlanView, partitions}

-- In how many partitions a stage runs. Ingress is stage 0, with a partition for each of its sources, and egress the one after the last, with one.
abbrev pub parts_of : PlanView → ℕ → ℕ
parts_of plan stage = slice_index (partitions plan.version plan.stages) stage

-- the number of edges into each partition of a stage: one from each partition of the stage before, or from each source of ingress
abbrev pub sources_of : PlanView → ℕ → ℕ
sources_of plan stage = parts_of plan (stage - 1)

-- ---- nodes

-- whether a pair runs this partition of this stage
abbrev pub has_pair : PlanView → ℕ → ℕ → Bool
has_pair plan stage part = nat_le 1 stage && nat_le stage (length plan.stages) && nat_lt part (parts_of plan stage)

-- Whether a plan has a node: ingress, for each pair two replicas and a controller, and egress.
abbrev pub has_node : PlanView → NodeId → Bool
has_node plan node.Ingress = true
has_node plan (node.Replica stage part which) = has_pair plan stage part
has_node plan (node.Control stage part) = has_pair plan stage part
has_node plan node.Egress = true

-- the stage of a node: ingress is stage 0, and egress the one after the last
abbrev pub stage_of_node : PlanView → NodeId → ℕ
stage_of_node plan node.Ingress = 0
stage_of_node plan (node.Replica stage part which) = stage
stage_of_node plan (node.Control stage part) = stage
stage_of_node plan node.Egress = length plan.stages + 1

-- a node of one stage, and one of the next
abbrev pub are_neighbours : PlanView → NodeId → NodeId → Bool
are_neighbours plan before after = stage_of_node plan after == stage_of_node plan before + 1

-- ---- who produces, consumes and acknowledges

-- whether a node is one of the two replicas of a pair
abbrev pub is_replica : NodeId → Bool
is_replica node.Ingress = false
is_replica (node.Replica stage part which) = true
is_replica (node.Control stage part) = false
is_replica node.Egress = false

-- whether a node produces items: ingress does, and each replica
abbrev pub is_producer : NodeId → Bool
is_producer node.Ingress = true
is_producer (node.Replica stage part which) = true
is_producer (node.Control stage part) = false
is_producer node.Egress = false

-- whether a node consumes items: each replica does, and egress
abbrev pub is_consumer : NodeId → Bool
is_consumer node.Ingress = false
is_consumer (node.Replica stage part which) = true
is_consumer (node.Control stage part) = false
is_consumer node.Egress = true

-- the controller of a pair acknowledges what the pair has taken, and egress what it has
abbrev pub acknowledges : NodeId → Bool
acknowledges node.Ingress = false
acknowledges (node.Replica stage part which) = false
acknowledges (node.Control stage part) = true
acknowledges node.Egress = true

-- whether these are the two replicas of a pair, and not one of them twice
abbrev pub are_partners : Which → Which → Bool
are_partners which.A which.A = false
are_partners which.A which.B = true
are_partners which.B which.A = true
are_partners which.B which.B = false

-- ---- links

-- items go to both replicas of each partition of the next stage, or to egress
abbrev pub carries_items : PlanView → NodeId → NodeId → Bool
carries_items plan from to = is_producer from && is_consumer to && are_neighbours plan from to

-- acknowledgements go back to both replicas of each partition of the stage before, or to ingress
abbrev pub carries_acknowledgements : PlanView → NodeId → NodeId → Bool
carries_acknowledgements plan from to = acknowledges from && is_producer to && are_neighbours plan to from

-- and so do the wants of a replica that was restarted
abbrev pub carries_wants : PlanView → NodeId → NodeId → Bool
carries_wants plan from to = is_replica from && is_producer to && are_neighbours plan to from

-- a replica's reports, notices and requests go to its controller
abbrev pub carries_reports : NodeId → NodeId → Bool
carries_reports (node.Replica stage part which) (node.Control of_stage of_part) = (stage == of_stage) && (part == of_part)
carries_reports from to = false

-- a controller's orders go to its two replicas
abbrev pub carries_orders : NodeId → NodeId → Bool
carries_orders (node.Control stage part) (node.Replica of_stage of_part which) = (stage == of_stage) && (part == of_part)
carries_orders from to = false

-- a replica's state goes to its partner
abbrev pub carries_state : NodeId → NodeId → Bool
carries_state (node.Replica stage part which) (node.Replica of_stage of_part other) = (stage == of_stage) && (part == of_part) && are_partners which other
carries_state from to = false

-- whether something goes from one node to another
abbrev pub carries_any : PlanView → NodeId → NodeId → Bool
carries_any plan from to =
    carries_items plan from to || carries_acknowledgements plan from to || carries_wants plan from to
    || carries_reports from to || carries_orders from to || carries_state from to

-- Whether a plan has a link: both its ends are nodes of the plan, and something goes from the one to the other.
abbrev pub has_link : PlanView → LinkId → Bool
has_link plan link = has_node plan link.from && has_node plan link.to && carries_any plan link.from link.to

-- ---- events

-- whether a plan has this node, and it is a replica
abbrev pub has_replica : PlanView → NodeId → Bool
has_replica plan n = is_replica n && has_node plan n

-- whether an edge of a plan leads from one node to another
abbrev pub has_edge : PlanView → NodeId → NodeId → Bool
has_edge plan from to = has_node plan from && has_node plan to && carries_items plan from to

-- Whether an event names what a plan has: a link, a node, a replica, or two nodes with an edge between them.
abbrev pub names_event : PlanView → Event → Bool
names_event plan (event.Take link index) = has_link plan link
names_event plan (event.Work n) = has_node plan n
names_event plan event.Make = true
names_event plan (event.Kill n) = has_replica plan n
names_event plan (event.AskStop n) = has_replica plan n
names_event plan (event.AskBack n) = has_replica plan n
names_event plan (event.Pull from to) = has_edge plan from to

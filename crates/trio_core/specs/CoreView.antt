-- What contracts see of a core: the nodes of a plan in some order, each under its name with every packet that it ever sent.
use Rattle.std.specs.Prelude.{ℕ, Bool, false, List, [], Option, None, Some, length, slice_get}
use Rattle.std.specs.Option.{option_and_then}
use Rattle.tuple_edge.specs.Input.{Input}
use Rattle.plan_reader.specs.PlanView.{PlanView}
use Rattle.pair_machine.specs.Consumers.{first_below}
use Rattle.pair_machine.specs.Flow.{Flow}
use Rattle.trio_machine.specs.Flow.{trio_flow}
use Rattle.trio_machine.specs.Numbers.{is_node}
use Rattle.trio_machine.specs.declared.body.TrioBody.{TrioBody}
use Rattle.trio_machine.specs.declared.node.TrioNode.{TrioNode}
use Rattle.trio_machine.specs.declared.node.TrioNode.TheVariants as node
use Rattle.trio_nodes.specs.ControllerView as control
use Rattle.trio_nodes.specs.IngressView as ingress
use Rattle.trio_nodes.specs.ReplicaView as replica
use Rattle.trio_nodes.specs.ReplicaView.{ReplicaView}
use Rattle.trio_core.specs.declared.member.Member.{Member}
use Rattle.trio_core.specs.declared.member.Member.TheVariants as member

-- the packets that a node ever sent, each with its receiver, in order
abbrev pub Log : Type 0
Log = List (TrioNode × TrioBody)

-- a node under its name, and all that it ever sent
pub record StationView : Type 0 where
  pub name : TrioNode
  pub member : Member
  pub sent : Log

-- the nodes of a plan in some order, each under its name with all that it ever sent
pub record CoreView : Type 0 where
  pub plan : PlanView
  pub stations : List StationView

-- the core of a plan with these stations
abbrev pub core_of : PlanView → List StationView → CoreView
core_of plan stations = record { plan = plan; stations = stations }

-- ---- nodes by their names

-- whether a place has a node of this name
abbrev pub is_at : TrioNode → Option StationView → Bool
is_at n None = false
is_at n (Some at) = is_node at.name n

-- the first place that has
abbrev pub place_of : TrioNode → List StationView → Option ℕ
place_of n stations = first_below (λ k. is_at n (slice_get stations k)) (length stations)

-- what stands there
abbrev pub found : TrioNode → List StationView → Option StationView
found n stations = option_and_then (slice_get stations) (place_of n stations)

-- the name that a node has in its plan
abbrev pub name_of : Member → TrioNode
name_of (member.Ingress i) = node.Ingress
name_of (member.Replica r) = replica.node_of r.role
name_of (member.Control c) = control.node_of c
name_of (member.Egress e) = node.Egress

-- ---- inputs

-- the inputs that a node makes into items: those of ingress
abbrev pub inputs_in : Member → List Input
inputs_in (member.Ingress i) = i.inputs
inputs_in (member.Replica r) = []
inputs_in (member.Control c) = []
inputs_in (member.Egress e) = []

-- the inputs that the node of a station makes into items, if there is a station
abbrev pub inputs_at : Option StationView → List Input
inputs_at None = []
inputs_at (Some at) = inputs_in at.member

-- the inputs of a core: those of its ingress
abbrev pub inputs_of : CoreView → List Input
inputs_of core = inputs_at (found node.Ingress core.stations)

-- the numbers of a core's plan, with its inputs
abbrev pub flow_in : CoreView → Flow
flow_in core = trio_flow core.plan (inputs_of core)

-- ---- the room of edges left aside

-- a replica, with the room of its edges left aside
abbrev pub contents_of_replica : ReplicaView → ReplicaView
contents_of_replica r = record r { running = replica.contents_if r.running }

-- a node, with the room of its edges left aside
abbrev pub contents_of : Member → Member
contents_of (member.Ingress i) = member.Ingress (ingress.contents_in i)
contents_of (member.Replica r) = member.Replica (contents_of_replica r)
contents_of (member.Control c) = member.Control c
contents_of (member.Egress e) = member.Egress e

-- What contracts see of a core: the nodes of a plan in their order, each with every packet that it ever sent. The room that edges have is left aside.
use Rattle.std.specs.Prelude.{◌≡◌, ℕ, Bool, true, false, List, [], ◌∷◌, Option, None, Some, if◌then◌else◌, map, slice_get}
use Rattle.tuple_edge.specs.declared.node.NodeId.{NodeId}
use Rattle.tuple_edge.specs.declared.node.NodeId.TheVariants as node
use Rattle.tuple_edge.specs.declared.packet.Body.{Body}
use Rattle.tuple_edge.specs.declared.row.Row.{Row}
use Rattle.tuple_edge.specs.Input.{Input}
use Rattle.plan_reader.specs.PlanView.{PlanView}
use Rattle.pair_machine.specs.Counts.{flow_of}
use Rattle.pair_machine.specs.Flow.{Flow}
use Rattle.pair_machine.specs.Numbers.{is_node}
use Rattle.ingress_egress.specs.IngressView.{IngressView, contents_in}
use Rattle.replica_node.specs.ReplicaView.{ReplicaView}
use Rattle.replica_node.specs.Rules as replica
use Rattle.plan_nodes.specs.States.{gone_of, has_ended, id_of, inputs_in, rows_of}
use Rattle.plan_nodes.specs.declared.state.NodeState.{NodeState}

-- the packets that a node ever sent, each with its receiver, in order
abbrev pub Log : Type 0
Log = List (NodeId × Body)

-- a node, and all that it ever sent
pub record StationView : Type 0 where
  pub node : NodeState
  pub sent : Log

-- the nodes of a plan in their order, each with all that it ever sent
pub record CoreView : Type 0 where
  pub plan : PlanView
  -- it was made as the plan opens, so that every packet that was ever sent is there
  pub whole : Bool
  pub stations : List StationView

-- these stations
abbrev pub core_of : PlanView → Bool → List StationView → CoreView
core_of plan whole stations = record { plan = plan; whole = whole; stations = stations }

-- the names of stations
abbrev pub names_of : List StationView → List NodeId
names_of stations = map (λ (at : StationView). id_of at.node) stations

-- ---- nodes by their names

-- the first station whose node has this name
abbrev pub found : NodeId → List StationView → Option StationView
found n [] = None
found n (at ∷ rest) = if is_node (id_of at.node) n then Some at else found n rest

-- what stands at a place, or under a name: a node, where there is one, and all that it ever sent
pub record Standing : Type 0 where
  pub content : Option NodeState
  pub sent : Log

-- a station's node and all that it ever sent; where there is no station, nothing
abbrev pub standing : Option StationView → Standing
standing None = record { content = None; sent = [] }
standing (Some at) = record { content = Some at.node; sent = at.sent }

-- what a core has under a name
abbrev pub station : CoreView → NodeId → Standing
station core n = standing (found n core.stations)

-- what stands at a place
abbrev pub standing_at : List StationView → ℕ → Standing
standing_at stations place = standing (slice_get stations place)

-- ---- of the whole

-- the inputs that came to a node
abbrev pub inputs_at : Option NodeState → List Input
inputs_at None = []
inputs_at (Some s) = inputs_in s

-- whether it was said to a node that no more come
abbrev pub ended_at : Option NodeState → Bool
ended_at None = false
ended_at (Some s) = has_ended s

-- the rows that a node emitted
abbrev pub rows_at : Option NodeState → List Row
rows_at None = []
rows_at (Some s) = rows_of s

-- the rows that a node handed on
abbrev pub gone_at : Option NodeState → List Row
gone_at None = []
gone_at (Some s) = gone_of s

-- the inputs of a core: those that came to its ingress
abbrev pub inputs_of : CoreView → List Input
inputs_of core = inputs_at (station core node.Ingress).content

-- the numbers of a core's plan, with its inputs
abbrev pub flow_in : CoreView → Flow
flow_in core = flow_of core.plan (inputs_of core)

-- the rows that egress of a core emitted
abbrev pub emitted_by : CoreView → List Row
emitted_by core = rows_at (station core node.Egress).content

-- the first of these rows, which it handed on
abbrev pub gone_by : CoreView → List Row
gone_by core = gone_at (station core node.Egress).content

-- a core has all its inputs: no more come to ingress
abbrev pub HasItsInputs : CoreView → Type 0
HasItsInputs core = ended_at (station core node.Ingress).content ≡ true

-- a core that is to have all rows that egress emitted has them: egress handed none on
abbrev pub HasItsRows : (all : Bool) → CoreView → Type 0
HasItsRows all core = all ≡ true → gone_by core ≡ []

-- ---- the room of edges left aside

-- ingress, with the room of its edges left aside
abbrev pub ingress_contents : IngressView → IngressView
ingress_contents i = contents_in i

-- a replica, with the room of its edges left aside
abbrev pub replica_contents : ReplicaView → ReplicaView
replica_contents v = replica.contents_in v

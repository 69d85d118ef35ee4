-- When a core stands for a state of the machine: each of its nodes stands for the node's numbers, and the packets of each link for its messages.
use Rattle.std.specs.Prelude.{◌≡◌, Bool, true, false, List, Option, None, Some}
use Rattle.tuple_edge.specs.declared.event.Event.{Event}
use Rattle.tuple_edge.specs.declared.node.NodeId.{NodeId}
use Rattle.tuple_edge.specs.Input.{Input}
use Rattle.plan_reader.specs.PlanView.{IsPlan, PlanView}
use Rattle.pair_machine.specs.Contents.{BodyStands}
use Rattle.pair_machine.specs.Courses.{Pairwise}
use Rattle.pair_machine.specs.Drain.{IsDrainable}
use Rattle.pair_machine.specs.Legal.{IsLegal}
use Rattle.pair_machine.specs.Links.{HasNode, link}
use Rattle.pair_machine.specs.Machine.{State}
use Rattle.pair_machine.specs.Messages.{Message}
use Rattle.pair_machine.specs.Numbers.{Node}
use Rattle.pair_machine.specs.Sound.{IsSound}
use Rattle.replica_node.specs.Course.{AreTimely}
use Rattle.plan_nodes.specs.NodeOrder.{nodes_of}
use Rattle.plan_nodes.specs.States as nodes
use Rattle.plan_nodes.specs.States.{id_of}
use Rattle.plan_nodes.specs.declared.state.NodeState.{NodeState}
use Rattle.flux_core.specs.CoreView.{CoreView, HasItsInputs, Log, Standing, flow_in, inputs_of, names_of, station}
use Rattle.flux_core.specs.Sent.{bodies_to}

module _ (plan : PlanView) (inputs : List Input) where
  -- there is a node of this name, which stands for numbers
  abbrev pub ContentStands : NodeId → Option NodeState → Node → Type 0
  ContentStands n None x = ⊥
  ContentStands n (Some s) x = (id_of s ≡ n) × nodes.StandsFor plan inputs s x

  -- packets stand for the messages of their links
  abbrev pub PacketsStand : NodeId → Log → (NodeId → List Message) → Type 0
  PacketsStand n packets messages = (to : NodeId) → Pairwise (BodyStands plan inputs (link n to)) (bodies_to to packets) (messages to)

  -- what stands under a name is that node, and stands with all that it sent for what a state has there
  pub record StationStands (n : NodeId) (at : Standing) (s : State) : Type 0 where
    pub content : ContentStands n at.content (s.nodes n)
    pub sent : PacketsStand n at.sent (λ to. s.sent (link n to))

-- the core stands for this state, over its own plan and inputs
abbrev pub StandsFor : CoreView → State → Type 0
StandsFor core s = (n : NodeId) → HasNode (flow_in core) n → StationStands core.plan (inputs_of core) n (station core n) s

-- ---- what is always true of a core

-- It stands for a sound state that a legal list of events reaches.
pub record IsReached (core : CoreView) : Type 0 where
  pub events : List Event
  pub state : State
  pub legal : IsLegal (flow_in core) events state
  pub sound : IsSound (flow_in core) state
  pub stands : StandsFor core state

-- It stands for a state from which the drain may begin: its buffers hold what takeover owes, and its numbers are within their lengths.
pub record IsGiven (core : CoreView) : Type 0 where
  pub state : State
  pub drainable : IsDrainable (flow_in core) state
  pub stands : StandsFor core state

-- what is known of a core: events reach its state, where it was made as the plan opens; else the drain may begin there
abbrev pub IsKnown : Bool → CoreView → Type 0
IsKnown true core = IsReached core
IsKnown false core = IsGiven core

-- its stations are the plan's nodes in their order, and it has all its inputs
pub record IsCore (core : CoreView) : Type 0 where
  pub plan : IsPlan core.plan
  pub times : AreTimely (inputs_of core)
  pub names : names_of core.stations ≡ nodes_of core.plan
  pub known : IsKnown core.whole core
  pub came : HasItsInputs core

-- When a core stands for a state of the machine: each of its nodes stands for the node's numbers, and the packets of each link for its messages.
use Rattle.std.specs.Prelude.{◌≡◌, List, Option, None, Some}
use Rattle.std.specs.List.{All}
use Rattle.tuple_edge.specs.Input.{Input}
use Rattle.op_spec.specs.Times.{IsTime}
use Rattle.plan_reader.specs.PlanView.{PlanView}
use Rattle.pair_machine.specs.Courses.{Pairwise}
use Rattle.trio_machine.specs.Flow.{IsTrioPlan, trio_flow}
use Rattle.trio_machine.specs.Legal.{IsLegal}
use Rattle.trio_machine.specs.Links.{HasNode}
use Rattle.trio_machine.specs.Machine.{State}
use Rattle.trio_machine.specs.Messages.{Message}
use Rattle.trio_machine.specs.Numbers.{Node}
use Rattle.trio_machine.specs.declared.event.TrioEvent.{TrioEvent}
use Rattle.trio_machine.specs.declared.node.TrioNode.{TrioNode}
use Rattle.trio_nodes.specs.Contents.{BodyStands}
use Rattle.trio_nodes.specs.ControllerPackets as control
use Rattle.trio_nodes.specs.Egress as egress
use Rattle.trio_nodes.specs.Ingress as ingress
use Rattle.trio_nodes.specs.Replica as replica
use Rattle.trio_core.specs.CoreView.{CoreView, Log, StationView, flow_in, found, inputs_of, name_of}
use Rattle.trio_core.specs.Sent.{bodies_to}
use Rattle.trio_core.specs.declared.member.Member.{Member}
use Rattle.trio_core.specs.declared.member.Member.TheVariants as member

module _ (plan : PlanView) (inputs : List Input) where
  -- a node stands for numbers
  abbrev pub MemberStands : Member → Node → Type 0
  MemberStands (member.Ingress i) x = ingress.StandsFor plan inputs i x
  MemberStands (member.Replica r) x = replica.StandsFor plan inputs r x
  MemberStands (member.Control c) x = control.StandsFor (trio_flow plan inputs) c x
  MemberStands (member.Egress e) x = egress.StandsFor plan inputs e x

  -- packets stand for the messages of their links
  abbrev pub PacketsStand : Log → (TrioNode → List Message) → Type 0
  PacketsStand packets messages = (to : TrioNode) → Pairwise (BodyStands plan inputs) (bodies_to to packets) (messages to)

  -- what stands under a name is the node of that name, and stands with all that it sent for what a state has there
  pub record StationStands (n : TrioNode) (at : StationView) (s : State) : Type 0 where
    pub name : name_of at.member ≡ n
    pub member : MemberStands at.member (s.nodes n)
    pub sent : PacketsStand at.sent (s.sent n)

  -- there is a station under this name, and it stands for what a state has there
  abbrev pub IsThere : TrioNode → Option StationView → State → Type 0
  IsThere n None s = ⊥
  IsThere n (Some at) s = StationStands n at s

-- the core stands for this state, over its own plan and inputs
abbrev pub StandsFor : CoreView → State → Type 0
StandsFor core s = (n : TrioNode) → HasNode (flow_in core) n → IsThere core.plan (inputs_of core) n (found n core.stations) s

-- the times of the inputs are within their limits
abbrev pub AreTimely : List Input → Type 0
AreTimely inputs = All (λ (input : Input). IsTime input.row.time) inputs

-- what is always true of a core: its inputs' times are within their limits, and it stands for a state that a legal list of events reaches
pub record IsCore (core : CoreView) : Type 0 where
  pub plan : IsTrioPlan core.plan
  pub times : AreTimely (inputs_of core)
  pub events : List TrioEvent
  pub state : State
  pub legal : IsLegal (flow_in core) events state
  pub stands : StandsFor core state

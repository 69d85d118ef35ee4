-- Scripts, by what a node can keep of its own history: before each of its failures and requests its own numbers let an order of the script
-- allow it, and none happens twice. Where all nodes keep it, the log of all events is within the script.
use Rattle.std.specs.Prelude.{List, [], ◌∷◌}
use Rattle.tuple_edge.specs.Input.{Input}
use Rattle.tuple_edge.specs.declared.event.Event.{Event}
use Rattle.tuple_edge.specs.declared.event.Stamped.{Stamped}
use Rattle.tuple_edge.specs.declared.node.NodeId.{NodeId}
use Rattle.tuple_edge.specs.declared.packet.Packet.{Packet}
use Rattle.plan_reader.specs.PlanView.{PlanView}
use Rattle.pair_machine.specs.Asked.{Asks}
use Rattle.pair_machine.specs.Contents.{BodyStands}
use Rattle.pair_machine.specs.Counts.{flow_of}
use Rattle.pair_machine.specs.Courses.{Arrivals, MeetsBeforeEach}
use Rattle.pair_machine.specs.Scripts.{HappenOnce, IsAllowedAt}
use Rattle.pair_machine.specs.declared.order.Order.{Order}

-- the events of a history
abbrev pub history_events : List Stamped → List Event
history_events [] = []
history_events (h ∷ hs) = h.event ∷ history_events hs

-- a node's history is within a script: each event is allowed at the numbers before it, and no failure or request of it happens again
pub record IsWithinScript (plan : PlanView) (inputs : List Input) (script : List Order) (n : NodeId) (arrived : Arrivals) (sent : NodeId → List Packet) (history : List Stamped) : Type 0 where
  pub allowed : MeetsBeforeEach (flow_of plan inputs) (BodyStands plan inputs) (Asks (flow_of plan inputs)) (IsAllowedAt script) n arrived sent history
  pub once : HappenOnce (history_events history)

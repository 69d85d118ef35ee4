-- What a task is in the machine.
use Rattle.std.specs.Prelude.{ℕ, List, Option, None, Some}
use Rattle.tuple_edge.specs.Input.{Input}
use Rattle.tuple_edge.specs.declared.event.Event.{Event}
use Rattle.tuple_edge.specs.declared.event.Event.TheVariants as event
use Rattle.tuple_edge.specs.declared.node.NodeId.{NodeId}
use Rattle.tuple_edge.specs.declared.packet.Body.{Body}
use Rattle.tuple_edge.specs.declared.packet.Packet.{Packet}
use Rattle.plan_reader.specs.PlanView.{IsPlan, PlanView}
use Rattle.pair_machine.specs.Asked.{Asks}
use Rattle.pair_machine.specs.Contents.{BodyStands}
use Rattle.pair_machine.specs.Counts.{flow_of}
use Rattle.pair_machine.specs.Courses.{IsStep, packets_to}
use Rattle.pair_machine.specs.Links.{link}
use Rattle.pair_machine.specs.Machine.{partner_node}
use Rattle.pair_machine.specs.Numbers.{Node}
use Rattle.node_tasks.specs.Timely.{AreTimely}
use Rattle.node_tasks.specs.declared.task.Task.{Task}
use Rattle.node_tasks.specs.declared.task.Task.TheVariants as task

-- the event that a task is at a node
abbrev pub event_of : NodeId → Task → Event
event_of me (task.Take from index packet) = event.Take (link from me) index
event_of me task.Work = event.Work me
event_of me task.Make = event.Make
event_of me task.Kill = event.Kill me
event_of me task.AskStop = event.AskStop me
event_of me task.AskBack = event.AskBack (partner_node me)

-- the packet that it takes
abbrev pub packet_of : Task → Option Packet
packet_of (task.Take from index packet) = Some packet
packet_of t = None

-- The task is a step of the machine in a course, in each plan within its limits, and it sends these packets.
abbrev pub DoesStep : {A : Type 0} → (A → NodeId) → (PlanView → List Input → A → Node → Type 0) → Task → A → A → List (NodeId × Body) → Type 0
DoesStep id stands t old new packets = (plan : PlanView) (inputs : List Input) → IsPlan plan → AreTimely inputs → (clock : ℕ) →
    IsStep (flow_of plan inputs) (BodyStands plan inputs) (Asks (flow_of plan inputs)) (id old) (stands plan inputs old) (stands plan inputs new) (event_of (id old) t) (packet_of t) (λ to. packets_to clock to packets)

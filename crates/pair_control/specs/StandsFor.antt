-- What a controller and its packets stand for in the machine.
use Rattle.std.specs.Prelude.{◌≡◌, ℕ, IsTrue, List, Ok, Some, length}
use Rattle.tuple_edge.specs.declared.event.Event.TheVariants as event
use Rattle.tuple_edge.specs.declared.node.NodeId.{NodeId}
use Rattle.tuple_edge.specs.declared.packet.Body.{Body}
use Rattle.tuple_edge.specs.Input.{Input}
use Rattle.plan_reader.specs.Nodes.{has_node, sources_of}
use Rattle.plan_reader.specs.PlanView.{PlanView}
use Rattle.pair_machine.specs.Numbers.{ControllerNode, Node, control_at}
use Rattle.pair_machine.specs.Messages.{Message, Takes}
use Rattle.pair_machine.specs.Asked.{Asks}
use Rattle.pair_machine.specs.Contents.{BodyStands}
use Rattle.pair_machine.specs.Counts.{flow_of}
use Rattle.pair_machine.specs.Courses.{ArePacketsFor, IsStep, packets_to}
use Rattle.pair_machine.specs.Flow.{Flow}
use Rattle.pair_machine.specs.Links.{link}
use Rattle.pair_machine.specs.Machine.{does}
use Rattle.pair_control.specs.ControllerView.{ControllerView, numbers_of, partition_of}
use Rattle.pair_control.specs.Packets.{packets_of, taking}

-- the name of the controller in its plan
abbrev pub node_of : ControllerView → NodeId
node_of c = control_at (partition_of c)

-- the controller stands for a node's numbers, in a plan that has as many in-edges there
pub record StandsFor (f : Flow) (c : ControllerView) (n : Node) : Type 0 where
  pub numbers : n ≡ ControllerNode (numbers_of c)
  pub edges : length c.acked ≡ f.sources c.stage

-- it is the controller of one of the plan's pairs, with as many in-edges as that pair has
pub record IsOfPlan (plan : PlanView) (c : ControllerView) : Type 0 where
  pub there : IsTrue (has_node plan (node_of c))
  pub edges : length c.acked ≡ sources_of plan c.stage

-- ---- one step

-- The machine's node takes the message: it has then the numbers of the later controller, and what it sends is what was appended.
pub record IsMachineStep (plan : PlanView) (inputs : List Input) (old new : ControllerView) (from : NodeId) (b : Body) (m : Message) : Type 0 where
  pub taken : does (flow_of plan inputs) (node_of old) (Takes from m) (ControllerNode (numbers_of old)) ≡ Ok (ControllerNode (numbers_of new), (taking old from b).1)
  pub stand : ArePacketsFor (BodyStands plan inputs) (node_of old) (packets_of (taking old from b).1) (taking old from b).1

-- ---- in a course

-- To take this packet from a node is a step of the controller in a course, and it sends these packets: whatever message the packet
-- stands for, and whatever its clock and its place on the link are.
abbrev pub IsTaken : PlanView → List Input → ControllerView → ControllerView → NodeId → Body → Type 0
IsTaken plan inputs old new from b =
    (at index clock : ℕ) → IsStep (flow_of plan inputs) (BodyStands plan inputs) (Asks (flow_of plan inputs)) (node_of old) (StandsFor (flow_of plan inputs) old) (StandsFor (flow_of plan inputs) new)
    (event.Take (link from (node_of old)) index) (Some (record { at = at; body = b })) (λ to. packets_to clock to (packets_of (taking old from b).1))

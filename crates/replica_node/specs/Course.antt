-- Steps of a replica's course: whatever message a packet stands for, and whatever clock and place on the link it has.
use Rattle.std.specs.Prelude.{◌≡◌, List, None, Some, Err, ℕ}
use Rattle.std.specs.List.{All}
use Rattle.tuple_edge.specs.declared.event.Event.{Event}
use Rattle.tuple_edge.specs.declared.event.Event.TheVariants as event
use Rattle.tuple_edge.specs.declared.event.Worked.{Worked}
use Rattle.tuple_edge.specs.declared.event.Worked.TheVariants as worked
use Rattle.tuple_edge.specs.declared.node.NodeId.{NodeId}
use Rattle.tuple_edge.specs.declared.packet.Body.{Body}
use Rattle.tuple_edge.specs.Input.{Input}
use Rattle.op_spec.specs.Times.{IsTime}
use Rattle.plan_reader.specs.PlanView.{PlanView}
use Rattle.pair_machine.specs.Asked.{Asks}
use Rattle.pair_machine.specs.Contents.{BodyStands}
use Rattle.pair_machine.specs.Counts.{flow_of}
use Rattle.pair_machine.specs.Courses.{IsStep, packets_to}
use Rattle.pair_machine.specs.Links.{link}
use Rattle.pair_machine.specs.Machine.{does}
use Rattle.pair_machine.specs.Messages.{Act, Refusal, Works, NothingDue}
use Rattle.pair_machine.specs.Numbers.{Node}
use Rattle.replica_node.specs.ReplicaView.{ReplicaView, node_of}
use Rattle.replica_node.specs.StandsFor.{StandsFor}

-- the times of the inputs are within their limits
abbrev pub AreTimely : List Input → Type 0
AreTimely inputs = All (λ (input : Input). IsTime input.row.time) inputs

-- to take this packet from a node, and send these
abbrev pub IsTaken : PlanView → List Input → ReplicaView → ReplicaView → NodeId → Body → List (NodeId × Body) → Type 0
IsTaken plan inputs old new from b sent =
    (clock at index : ℕ) → IsStep (flow_of plan inputs) (BodyStands plan inputs) (Asks (flow_of plan inputs)) (node_of old.role) (StandsFor plan inputs old) (StandsFor plan inputs new)
    (event.Take (link from (node_of old.role)) index) (Some (record { at = at; body = b })) (λ to. packets_to clock to sent)

-- an event that takes no packet, and sends these
abbrev pub IsDone : PlanView → List Input → ReplicaView → ReplicaView → List (NodeId × Body) → Event → Type 0
IsDone plan inputs old new sent e =
    (clock : ℕ) → IsStep (flow_of plan inputs) (BodyStands plan inputs) (Asks (flow_of plan inputs)) (node_of old.role) (StandsFor plan inputs old) (StandsFor plan inputs new) e None
    (λ to. packets_to clock to sent)

-- an act that the machine refuses
abbrev pub IsRefused : PlanView → List Input → ReplicaView → Act → Refusal → Type 0
IsRefused plan inputs old a r = (n : Node) → StandsFor plan inputs old n → does (flow_of plan inputs) (node_of old.role) a n ≡ Err r

-- a piece of work; where there was none, nothing was due
abbrev pub IsWorked : PlanView → List Input → ReplicaView → ReplicaView → List (NodeId × Body) → Worked → Type 0
IsWorked plan inputs old new sent worked.Did = IsDone plan inputs old new sent (event.Work (node_of old.role))
IsWorked plan inputs old new sent worked.Idle = IsRefused plan inputs old Works NothingDue

-- A call of the controller is a step of the machine, and a step in a course.
use Rattle.std.proofs.Common.{◌≡◌, ◌∙◌, List, Result, Ok, length, refl, ap, subst, sym}
use Rattle.tuple_edge.specs.declared.node.NodeId.{NodeId}
use Rattle.tuple_edge.specs.declared.node.NodeId.TheVariants as node
use Rattle.tuple_edge.specs.declared.packet.Body.{Body}
use Rattle.tuple_edge.specs.declared.packet.Body.TheVariants as body
use Rattle.tuple_edge.specs.Input.{Input}
use Rattle.plan_reader.specs.PlanView.{PlanView}
use Rattle.pair_machine.specs.Contents.{BodyStands}
use Rattle.pair_machine.specs.Controllers.{controller_takes}
use Rattle.pair_machine.specs.Counts.{flow_of}
use Rattle.pair_machine.specs.Courses.{ArePacketsFor}
use Rattle.pair_machine.specs.Links.{link}
use Rattle.pair_machine.specs.Machine.{does}
use Rattle.pair_machine.specs.Messages.{AskBack, AskStop, Caught, Down, Envelope, Message, Refusal, Report}
use Rattle.pair_machine.specs.Numbers.{Controller, ControllerNode, Node, Partition}
use Rattle.pair_machine.specs.Replicas.{which_of}
use Rattle.pair_machine.proofs.Delivered.{delivered}
use Rattle.pair_control.specs.Admitted.{IsCarried, IsFromReplica}
use Rattle.pair_control.specs.ControllerView.{ControllerView, numbers_of, partition_of}
use Rattle.pair_control.specs.Packets.{message_of, packets_of, taking}
use Rattle.pair_control.specs.StandsFor.{IsMachineStep, IsTaken, node_of}
use Rattle.pair_control.proofs.Sending.{packets_stand, takes_sent}

-- the message for which a body stands at a controller
message_is : (plan : PlanView) (inputs : List Input) (from to : NodeId) (c : ControllerView) (b : Body) (m : Message) → IsCarried c b → BodyStands plan inputs (link from to) b m → m ≡ message_of b
message_is plan inputs from to c (body.Report i e k) (Report inc edge upto) h st = cc
message_is plan inputs from to c (body.Down i) (Down inc) h st = cc
message_is plan inputs from to c (body.AskStop i) (AskStop inc) h st = cc
message_is plan inputs from to c body.AskBack AskBack h st = refl
message_is plan inputs from to c (body.Caught i) (Caught inc) h st = cc
message_is plan inputs from to c (body.Tuple e n x) m h st = absurd h
message_is plan inputs from to c (body.Ack e k) m h st = absurd h
message_is plan inputs from to c (body.Want e n) m h st = absurd h
message_is plan inputs from to c (body.Lead i t) m h st = absurd h
message_is plan inputs from to c (body.Serve i t) m h st = absurd h
message_is plan inputs from to c (body.Begin i) m h st = absurd h
message_is plan inputs from to c (body.Stop i) m h st = absurd h
message_is plan inputs from to c (body.Chunk i n x) m h st = absurd h
message_is plan inputs from to c (body.ChunkEnd i n) m h st = absurd h
message_is plan inputs from to c b m h st = absurd st

-- a controller that hears of its replicas alone takes what the machine's takes
taken_of : (c : ControllerView) (from : NodeId) (b : Body) → IsFromReplica c from
    → controller_takes (length c.acked) (partition_of c) (which_of from) (message_of b) (numbers_of c) ≡ taking c from b
taken_of c (node.Replica stage part which) b h = refl
taken_of c node.Ingress b h = absurd h
taken_of c (node.Control stage part) b h = absurd h
taken_of c node.Egress b h = absurd h

pub machine_step : (plan : PlanView) (inputs : List Input) (old new : ControllerView) (from : NodeId) (b : Body) (m : Message) →
    IsFromReplica old from → IsCarried old b → length old.acked ≡ (flow_of plan inputs).sources old.stage → BodyStands plan inputs (link from (node_of old)) b m →
    numbers_of new ≡ (taking old from b).0 → IsMachineStep plan inputs old new from b m
machine_step plan inputs old new from b m sender carried edges st e =
    let em = message_is plan inputs from (node_of old) old b m carried st in
    let Out : (Controller × List Envelope) → Result (Node × List Envelope) Refusal = λ x. Ok (ControllerNode x.0, x.1) in
    let Now : Controller → Result (Node × List Envelope) Refusal = λ y. Ok (ControllerNode y, (taking old from b).1) in
    let Stand : (Controller × List Envelope) → Type 0 = λ x. ArePacketsFor (BodyStands plan inputs) (node_of old) (packets_of x.1) x.1 in
    record {
      taken = (λ i. Out (controller_takes (sym edges i) (partition_of old) (which_of from) (em i) (numbers_of old)))
          ∙ ap Out (taken_of old from b sender) ∙ ap Now (sym e);
      stand = subst Stand (taken_of old from b sender)
          (packets_stand plan inputs (node_of old) _ (takes_sent plan inputs (node_of old) (partition_of old) (length old.acked) (which_of from) (message_of b) (numbers_of old)));
    }

pub course_step : (plan : PlanView) (inputs : List Input) (old new : ControllerView) (from : NodeId) (b : Body) → IsFromReplica old from → IsCarried old b →
    numbers_of new ≡ (taking old from b).0 → partition_of new ≡ partition_of old → length new.acked ≡ length old.acked → IsTaken plan inputs old new from b
course_step plan inputs old new from b sender carried e same edges at index clock a act x stands asks =
    let one = machine_step plan inputs old new from b act.0 sender carried stands.edges act.2 e in
    let sources = (flow_of plan inputs).sources in (
      (ControllerNode (numbers_of new), (taking old from b).1),
      (λ i. does (flow_of plan inputs) (node_of old) (act.1 i) (stands.numbers i)) ∙ one.taken,
      record { numbers = refl; edges = edges ∙ stands.edges ∙ ap (λ (p : Partition). sources p.stage) (sym same) },
      λ to. delivered (BodyStands plan inputs) (node_of old) clock to _ _ one.stand,
    )

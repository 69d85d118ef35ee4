-- The packets of a controller and the machine's messages that they stand for.
use Rattle.std.specs.Prelude.{◌≡◌, ◌≤◌, ℕ, List, [], ◌∷◌, ◌++◌, ◌+◌, if◌then◌else◌, length, nat_lt}
use Rattle.tuple_edge.specs.Outbox.{OutboxView}
use Rattle.tuple_edge.specs.declared.node.NodeId.{NodeId}
use Rattle.tuple_edge.specs.declared.node.NodeId.TheVariants as node
use Rattle.tuple_edge.specs.declared.packet.Body.{Body}
use Rattle.tuple_edge.specs.declared.packet.Body.TheVariants as body
use Rattle.pair_machine.specs.Numbers.{Controller, Partition, in_edge}
use Rattle.pair_machine.specs.Messages.{Envelope, Message, Ack, Report, Lead, Serve, Begin, Caught, Down, Stop, AskStop, AskBack}
use Rattle.pair_machine.specs.Controllers.{controller_takes}
use Rattle.pair_machine.specs.Producers.{to_producers}
use Rattle.pair_control.specs.ControllerView.{ControllerView, numbers_of, partition_of}

-- ---- what is heard

-- the message that a replica's packet to its controller stands for; of other packets it says nothing, and a controller hears none of them
abbrev pub message_of : Body → Message
message_of (body.Report i e k) = Report i e k
message_of (body.Down i) = Down i
message_of (body.AskStop i) = AskStop i
message_of body.AskBack = AskBack
message_of (body.Caught i) = Caught i
message_of b = Begin 0

-- what a replica's packet does to its controller, and what is sent for it: the machine's own step; a packet of a node that is no
-- replica says nothing
abbrev pub taking : ControllerView → NodeId → Body → (Controller × List Envelope)
taking c (node.Replica stage part which) b = controller_takes (length c.acked) (partition_of c) which (message_of b) (numbers_of c)
taking c from b = (numbers_of c, [])

-- ---- what is sent

-- the body of a message that a controller sends; it sends no other
abbrev pub body_of : Message → Body
body_of (Lead i t) = body.Lead i t
body_of (Serve i t) = body.Serve i t
body_of (Begin i) = body.Begin i
body_of (Stop i) = body.Stop i
body_of (Ack e k) = body.Ack e k
body_of m = body.AskBack

-- the packets of envelopes, each with its receiver
abbrev pub packets_of : List Envelope → List (NodeId × Body)
packets_of [] = []
packets_of (e ∷ es) = (e.to, body_of e.message) ∷ packets_of es

-- what is sent of an in-edge of which so much is known to be acknowledged, where the least report is above that
abbrev pub ack_due : Partition → ℕ → ℕ → ℕ → List Envelope
ack_due p q known least = if nat_lt known least then to_producers p q (Ack (in_edge p q) least) else []

-- an outbox gets at most so many packets more, and uses at most so much of its room
abbrev pub SendsAtMost : ℕ → OutboxView → OutboxView → Type 0
SendsAtMost n before after = (length after.packets ≤ length before.packets + n) × (before.spare ≤ after.spare + n)

-- What the machine's controller does was done: these are its numbers now, just its packets were appended, and the partition and the
-- number of in-edges stay.
pub record IsDone (old new : ControllerView) (before after : OutboxView) (done : Controller × List Envelope) : Type 0 where
  pub numbers : numbers_of new ≡ done.0
  pub packets : after.packets ≡ before.packets ++ packets_of done.1
  pub partition : partition_of new ≡ partition_of old
  pub edges : length new.acked ≡ length old.acked

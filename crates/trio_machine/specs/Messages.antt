-- What nodes send to each other, in numbers, and what an event asks of a node. A message is a packet without the item that it carries:
-- a tuple is its edge and number, and what its item is follows from these.
use Rattle.std.specs.Prelude.{ℕ}
use Rattle.tuple_edge.specs.declared.node.EdgeId.{EdgeId}
use Rattle.trio_machine.specs.declared.node.TrioNode.{TrioNode}

-- what a packet says, in numbers
pub data Message : Type 0 where
  Tuple : (edge : EdgeId) (number : ℕ) → Message
  Ack : (edge : EdgeId) (upto : ℕ) → Message
  Report : (edge : EdgeId) (upto : ℕ) → Message
  Lead : (term : ℕ) → Message
  Down : Message

-- a message with its receiver
pub record Envelope : Type 0 where
  pub to : TrioNode
  pub message : Message

-- a message, addressed to its receiver
abbrev pub envelope : TrioNode → Message → Envelope
envelope to message = record { to = to; message = message }

-- what an event asks of its node: to take a message, to do the first piece of work that is due, to make the next input into items, to
-- fail, or to take the next item of an in-edge straight from its producer
pub data Act : Type 0 where
  Takes : (from : TrioNode) (message : Message) → Act
  Works : Act
  Makes : Act
  Dies : Act
  Pulls : (source : ℕ) → Act

-- why an event is no step: no such packet was sent, nothing is due at the node, an end of it doesn't run, ingress has made all, or the
-- next item of the edge isn't in the producer's buffer
pub data Refusal : Type 0 where
  NotSent : (index sent : ℕ) → Refusal
  NothingDue : Refusal
  NotRunning : Refusal
  NoMoreRows : Refusal
  NotHeld : (low mark produced : ℕ) → Refusal

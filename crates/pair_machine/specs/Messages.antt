-- What nodes send to each other, in numbers, and what an event asks of a node. A message is a packet without the item or entry that
-- it carries: a tuple is its edge and number, a chunk its place in the list of its move and the numbers of that move. What stands in
-- the packet itself follows from these numbers.
use Rattle.std.specs.Prelude.{ℕ}
use Rattle.tuple_edge.specs.declared.node.EdgeId.{EdgeId}
use Rattle.tuple_edge.specs.declared.node.LinkId.{LinkId}
use Rattle.tuple_edge.specs.declared.node.NodeId.{NodeId}
use Rattle.pair_machine.specs.Numbers.{MoveNumbers}

-- what a packet says, in numbers
pub data Message : Type 0 where
  Tuple : (edge : EdgeId) (number : ℕ) → Message
  Ack : (edge : EdgeId) (upto : ℕ) → Message
  Report : (inc : ℕ) (edge : EdgeId) (upto : ℕ) → Message
  Lead : (inc term : ℕ) → Message
  Serve : (inc target : ℕ) → Message
  Begin : (inc : ℕ) → Message
  Chunk : (inc number : ℕ) (numbers : MoveNumbers) → Message
  ChunkEnd : (inc count : ℕ) (numbers : MoveNumbers) → Message
  Caught : (inc : ℕ) → Message
  Want : (edge : EdgeId) (from : ℕ) → Message
  Down : (inc : ℕ) → Message
  Stop : (inc : ℕ) → Message
  AskStop : (inc : ℕ) → Message
  AskBack : Message

-- a message with its receiver
pub record Envelope : Type 0 where
  pub to : NodeId
  pub message : Message

-- a message to a node; its sender is the node whose act gives it
abbrev pub envelope : NodeId → Message → Envelope
envelope to message = record { to = to; message = message }

-- what an event asks of its node: to take a message, to do the first piece of work that is due, to make the next row into items, to
-- fail, to ask for its own stop or for its partner's return, or to take the next item of an in-edge straight from its producer
pub data Act : Type 0 where
  Takes : (from : NodeId) (message : Message) → Act
  Works : Act
  Makes : Act
  Dies : Act
  AsksStop : Act
  AsksBack : Act
  Pulls : (source : ℕ) → Act

-- why an event is no step: no such packet was sent on the link, nothing is due at the node, an end of it doesn't run, ingress has
-- made all, or the next item of the edge isn't in the producer's buffer
pub data Refusal : Type 0 where
  NotSent : (link : LinkId) (index sent : ℕ) → Refusal
  NothingDue : Refusal
  NotRunning : Refusal
  NoMoreRows : Refusal
  NotHeld : (low mark produced : ℕ) → Refusal

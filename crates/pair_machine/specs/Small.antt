-- Every number of the machine's nodes and messages, and how large they grow. No event makes a number that is more than one above the greatest one
-- before it, so a number is at most one more than the number of events. The numbers in the names of nodes and edges are the plan's, and none of these.
use Rattle.std.specs.Prelude.{◌<◌, ◌≤◌, ◌+◌, ◌-◌, ◌^◌, ℕ, List, Option, None, Some, length}
use Rattle.tuple_edge.specs.declared.event.Event.{Event}
use Rattle.tuple_edge.specs.declared.node.NodeId.{NodeId}
use Rattle.tuple_edge.specs.declared.node.NodeId.TheVariants as node
use Rattle.tuple_edge.specs.declared.node.Which.{Which}
use Rattle.pair_machine.specs.Flow.{Flow}
use Rattle.pair_machine.specs.Legal.{IsLegal}
use Rattle.pair_machine.specs.Lengths.{Meets}
use Rattle.pair_machine.specs.Lists.{Each}
use Rattle.pair_machine.specs.Machine.{State, controller_in, egress_in, ingress_in, replica_in}
use Rattle.pair_machine.specs.Messages.{Message, Tuple, Ack, Report, Lead, Serve, Begin, Chunk, ChunkEnd, Caught, Want, Down, Stop, AskStop, AskBack}
use Rattle.pair_machine.specs.Numbers.{Consumer, Controller, Gathering, GatheringNumbers, Gone, Ingress, Move, MoveNumbers, Node, Producer, Replica, Running, RunningNumbers}

-- ---- P holds of each number

-- of each number of a producer
pub record EachOfProducer (P : ℕ → Type 0) (x : Producer) : Type 0 where
  pub lows : (t : ℕ) → P (x.lows t)
  pub cursors : (t c : ℕ) → P (x.cursors t c)
  pub term : P x.term

-- of each number of a consumer
pub record EachOfConsumer (P : ℕ → Type 0) (x : Consumer) : Type 0 where
  pub marks : (q : ℕ) → P (x.marks q)
  pub told : (q : ℕ) → P (x.told q)
  pub count : P x.count

-- of each number that a move fixes at its beginning
pub record EachOfNumbers (P : ℕ → Type 0) (m : MoveNumbers) : Type 0 where
  pub marks : (q : ℕ) → P (m.marks q)
  pub count : P m.count
  pub lows : (t : ℕ) → P (m.lows t)

-- of each number of a move under way; where there is none, there is no number
abbrev pub EachOfMove : (ℕ → Type 0) → Option Move → Type 0
EachOfMove P None = Unit {0}
EachOfMove P (Some mv) = P mv.target × EachOfNumbers P mv.numbers × P mv.sent

-- of each number that a newcomer's chunks brought; before the first chunk there is none
abbrev pub EachOfMoved : (ℕ → Type 0) → Option MoveNumbers → Type 0
EachOfMoved P None = Unit {0}
EachOfMoved P (Some m) = EachOfNumbers P m

-- of each number of a replica that runs, its move among them
pub record EachOfRunning (P : ℕ → Type 0) (x : RunningNumbers) : Type 0 where
  pub inc : P x.inc
  pub consumer : EachOfConsumer P x.consumer
  pub producer : EachOfProducer P x.producer
  pub served : P x.served
  pub move : EachOfMove P x.move

-- of each number of a replica that gathers, and of each number of an item that it holds
pub record EachOfGathering (P : ℕ → Type 0) (g : GatheringNumbers) : Type 0 where
  pub inc : P g.inc
  pub taken : P g.taken
  pub moved : EachOfMoved P g.moved
  pub held : (q : ℕ) → Each P (g.held q)

-- of each number that a replica has in its mode; one that is gone has its incarnation alone
abbrev pub EachOfReplica : (ℕ → Type 0) → Replica → Type 0
EachOfReplica P (Gone i) = P i
EachOfReplica P (Running x) = EachOfRunning P x
EachOfReplica P (Gathering g) = EachOfGathering P g

-- of each number of a controller
pub record EachOfController (P : ℕ → Type 0) (c : Controller) : Type 0 where
  pub inc : (w : Which) → P (c.watched w).inc
  pub reports : (w : Which) (q : ℕ) → P ((c.watched w).reports q)
  pub acked : (q : ℕ) → P (c.acked q)
  pub term : P c.term

-- of each number of ingress, by its sources
pub record EachOfIngress (P : ℕ → Type 0) (x : Ingress) : Type 0 where
  pub makes : P x.makes
  pub producers : (q : ℕ) → EachOfProducer P (x.producers q)

-- of each number that a node has, as one of the kind that its name says
abbrev pub EachOfNode : (ℕ → Type 0) → NodeId → Node → Type 0
EachOfNode P node.Ingress x = EachOfIngress P (ingress_in x)
EachOfNode P (node.Replica s p w) x = EachOfReplica P (replica_in x)
EachOfNode P (node.Control s p) x = EachOfController P (controller_in x)
EachOfNode P node.Egress x = EachOfConsumer P (egress_in x)

-- of each number that a message carries, but those of its edge
abbrev pub EachOfMessage : (ℕ → Type 0) → Message → Type 0
EachOfMessage P (Tuple e n) = P n
EachOfMessage P (Ack e k) = P k
EachOfMessage P (Report i e k) = P i × P k
EachOfMessage P (Lead i t) = P i × P t
EachOfMessage P (Serve i t) = P i × P t
EachOfMessage P (Begin i) = P i
EachOfMessage P (Chunk i n m) = P i × P n × EachOfNumbers P m
EachOfMessage P (ChunkEnd i n m) = P i × P n × EachOfNumbers P m
EachOfMessage P (Caught i) = P i
EachOfMessage P (Want e n) = P n
EachOfMessage P (Down i) = P i
EachOfMessage P (Stop i) = P i
EachOfMessage P (AskStop i) = P i
EachOfMessage P AskBack = Unit {0}

-- of each number of every node and of every message that was ever sent
abbrev pub EachNumber : (ℕ → Type 0) → State → Type 0
EachNumber P s = Meets (EachOfNode P) (λ link m. EachOfMessage P m) s

-- ---- how large they grow

-- in the state that a legal list reaches no number is above one more than the number of its events
abbrev pub NumbersStaySmall : Type 0
NumbersStaySmall = (f : Flow) (es : List Event) (t : State) → IsLegal f es t → EachNumber (λ n. n ≤ length es + 1) t

-- so after fewer than 2^61 events each is below 2^62 - 1, and may be counted on by one
abbrev pub NumbersFit : Type 0
NumbersFit = (f : Flow) (es : List Event) (t : State) → IsLegal f es t → length es < 2 ^ 61 → EachNumber (λ n. n < 2 ^ 62 - 1) t

-- Every number is within the lengths of the lists that it counts: marks, counts, chunks and held items. A node meets this of its
-- numbers, and a message of those that it carries.
use Rattle.std.specs.Prelude.{◌<◌, ◌≤◌, ℕ, Option, None, Some}
use Rattle.tuple_edge.specs.declared.node.LinkId.{LinkId}
use Rattle.tuple_edge.specs.declared.node.NodeId.{NodeId}
use Rattle.tuple_edge.specs.declared.node.NodeId.TheVariants as node
use Rattle.pair_machine.specs.Numbers.{Producer, Consumer, MoveNumbers, Move, Replica, Gone, Running, Gathering, Node, Partition, in_edge}
use Rattle.pair_machine.specs.Messages.{Message, Tuple, Chunk, ChunkEnd}
use Rattle.pair_machine.specs.Flow.{Flow}
use Rattle.pair_machine.specs.Replicas.{size}
use Rattle.pair_machine.specs.Boundary.{egress_partition}
use Rattle.pair_machine.specs.Lists.{Each}
use Rattle.pair_machine.specs.Machine.{State, replica_in, egress_in, ingress_in}

-- each node meets N of its numbers, and each message M of its link
pub record Meets (N : NodeId → Node → Type 0) (M : LinkId → Message → Type 0) (s : State) : Type 0 where
  pub nodes : (n : NodeId) → N n (s.nodes n)
  pub sent : (l : LinkId) → Each (M l) (s.sent l)

-- what is merged was taken, what was taken is on the edge, and what was told was taken
pub record ConsumerBound (f : Flow) (p : Partition) (c : Consumer) : Type 0 where
  pub used : (q : ℕ) → q < f.sources p.stage → f.used p q c.count ≤ c.marks q
  pub most : (q : ℕ) → c.marks q ≤ f.length (in_edge p q)
  pub told : (q : ℕ) → c.told q ≤ c.marks q
  pub count : c.count ≤ f.total p

-- each cursor is above what is acknowledged
pub record ProducerBound (x : Producer) : Type 0 where
  pub above : (t c : ℕ) → x.lows t < x.cursors t c

-- what a move's numbers say was merged was taken, and what was taken is on the edge
pub record MoveBound (f : Flow) (p : Partition) (m : MoveNumbers) : Type 0 where
  pub used : (q : ℕ) → q < f.sources p.stage → f.used p q m.count ≤ m.marks q
  pub most : (q : ℕ) → m.marks q ≤ f.length (in_edge p q)
  pub count : m.count ≤ f.total p

-- a mover has sent no more chunks than its list has
abbrev pub MoverBound : Flow → Partition → Option Move → Type 0
MoverBound f p None = Unit {0}
MoverBound f p (Some mv) = MoveBound f p mv.numbers × (mv.sent ≤ size f p mv.numbers)

-- a newcomer has taken no more chunks than its list has
abbrev pub MovedBound : Flow → Partition → ℕ → Option MoveNumbers → Type 0
MovedBound f p taken None = Unit {0}
MovedBound f p taken (Some m) = MoveBound f p m × (taken ≤ size f p m)

-- a replica's numbers are within the lengths, and what a newcomer holds are items of its in-edges; of one that is gone nothing is asked
abbrev pub ReplicaBound : Flow → Partition → Replica → Type 0
ReplicaBound f p (Gone i) = Unit {0}
ReplicaBound f p (Running x) = ConsumerBound f p x.consumer × ProducerBound x.producer × MoverBound f p x.move
ReplicaBound f p (Gathering g) = MovedBound f p g.taken g.moved × ((q : ℕ) → Each (λ n. (1 ≤ n) × (n ≤ f.length (in_edge p q))) (g.held q))

-- a node's numbers are within the lengths, and ingress made no more than there is to make; of a controller nothing is asked here
abbrev pub NodeBound : Flow → NodeId → Node → Type 0
NodeBound f node.Ingress n = ((ingress_in n).makes ≤ f.makes) × ((q : ℕ) → ProducerBound ((ingress_in n).producers q))
NodeBound f (node.Replica s p w) n = ReplicaBound f (record { stage = s; part = p }) (replica_in n)
NodeBound f (node.Control s p) n = Unit {0}
NodeBound f node.Egress n = ConsumerBound f (egress_partition f) (egress_in n)

-- a chunk that a replica sent has a place in its move's list
abbrev pub ChunkBound : Flow → NodeId → ℕ → MoveNumbers → Type 0
ChunkBound f (node.Replica s p w) n m = MoveBound f (record { stage = s; part = p }) m × (1 ≤ n) × (n ≤ size f (record { stage = s; part = p }) m)
ChunkBound f sender n m = Unit {0}

-- the end of a move that a replica sent carries numbers within the lengths; what it counts is asked of pairs
abbrev pub EndBound : Flow → NodeId → MoveNumbers → Type 0
EndBound f (node.Replica s p w) m = MoveBound f (record { stage = s; part = p }) m
EndBound f sender m = Unit {0}

-- a tuple's number is one of its edge
abbrev pub MessageBound : Flow → LinkId → Message → Type 0
MessageBound f l (Tuple e n) = (1 ≤ n) × (n ≤ f.length e)
MessageBound f l (Chunk i n m) = ChunkBound f l.from n m
MessageBound f l (ChunkEnd i n m) = EndBound f l.from m
MessageBound f l m = Unit {0}

-- the numbers of every node, and of every message ever sent, are within the lengths
abbrev pub IsWithinLengths : Flow → State → Type 0
IsWithinLengths f s = Meets (NodeBound f) (MessageBound f) s

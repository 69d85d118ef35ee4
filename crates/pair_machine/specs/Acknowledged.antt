-- What is acknowledged: at most what each counted replica reported, and no producer, move or message is beyond it. Since acknowledged
-- numbers never fall, what a message said of them stays true.
use Rattle.std.specs.Prelude.{◌≡◌, ◌≤◌, ℕ, false, Option, None, Some, ◌+◌, ◌==◌, if◌then◌else◌}
use Rattle.tuple_edge.specs.declared.node.EdgeId.{EdgeId}
use Rattle.tuple_edge.specs.declared.node.LinkId.{LinkId}
use Rattle.tuple_edge.specs.declared.node.NodeId.{NodeId}
use Rattle.tuple_edge.specs.declared.node.NodeId.TheVariants as node
use Rattle.tuple_edge.specs.declared.node.Which.{Which}
use Rattle.pair_machine.specs.Numbers.{MoveNumbers, Move, Replica, Gone, Running, Gathering, Controller, Node, ingress_edge}
use Rattle.pair_machine.specs.Messages.{Message, Ack, Chunk, ChunkEnd}
use Rattle.pair_machine.specs.Flow.{Flow}
use Rattle.pair_machine.specs.Controllers.{is_down}
use Rattle.pair_machine.specs.Lengths.{Meets}
use Rattle.pair_machine.specs.Machine.{State, replica_in, controller_in, egress_in, ingress_in}

-- up to which number an edge is acknowledged: by the controller of its consumers, or by what egress told
abbrev pub acked_of : Flow → State → EdgeId → ℕ
acked_of f s e = if e.stage == f.stages then (egress_in (s.nodes node.Egress)).told e.from else (controller_in (s.nodes (node.Control (e.stage + 1) e.to))).acked e.from

-- the lows that a replica sends with a move are at most what is acknowledged; where no move is under way, nothing is asked
abbrev pub MoveLows : (ℕ → ℕ) → Option Move → Type 0
MoveLows acked None = Unit {0}
MoveLows acked (Some mv) = (t : ℕ) → mv.numbers.lows t ≤ acked t

-- the lows of the move that a newcomer takes are at most what is acknowledged; before its first chunk nothing is asked
abbrev pub MovedLows : (ℕ → ℕ) → Option MoveNumbers → Type 0
MovedLows acked None = Unit {0}
MovedLows acked (Some m) = (t : ℕ) → m.lows t ≤ acked t

-- the lows of a replica and of its move are at most what is acknowledged
abbrev pub ReplicaLows : (ℕ → ℕ) → Replica → Type 0
ReplicaLows acked (Gone i) = Unit {0}
ReplicaLows acked (Running x) = ((t : ℕ) → x.producer.lows t ≤ acked t) × MoveLows acked x.move
ReplicaLows acked (Gathering g) = MovedLows acked g.moved

-- a controller acknowledges at most the report of each replica that isn't down
abbrev pub ControllerAcks : Controller → Type 0
ControllerAcks c = (q : ℕ) (w : Which) → is_down (c.watched w).status ≡ false → c.acked q ≤ (c.watched w).reports q

-- no node's lows are beyond what is acknowledged, and no controller acknowledges beyond the reports; of egress nothing is asked
abbrev pub NodeLows : (EdgeId → ℕ) → NodeId → Node → Type 0
NodeLows acked node.Ingress n = (q t : ℕ) → ((ingress_in n).producers q).lows t ≤ acked (ingress_edge q t)
NodeLows acked (node.Replica s p w) n = ReplicaLows (λ t. acked (record { stage = s; from = p; to = t })) (replica_in n)
NodeLows acked (node.Control s p) n = ControllerAcks (controller_in n)
NodeLows acked node.Egress n = Unit {0}

-- the lows in a chunk are at most what is acknowledged of the sender's own out-edges; only replicas send chunks
abbrev pub ChunkLows : (EdgeId → ℕ) → NodeId → MoveNumbers → Type 0
ChunkLows acked (node.Replica s p w) m = (t : ℕ) → m.lows t ≤ acked (record { stage = s; from = p; to = t })
ChunkLows acked sender m = Unit {0}

-- an acknowledgement, and the lows of a move, are at most what is acknowledged
abbrev pub MessageLows : (EdgeId → ℕ) → LinkId → Message → Type 0
MessageLows acked l (Ack e u) = u ≤ acked e
MessageLows acked l (Chunk i n m) = ChunkLows acked l.from m
MessageLows acked l (ChunkEnd i n m) = ChunkLows acked l.from m
MessageLows acked l m = Unit {0}

-- so it is of every node, and of every message that was ever sent, by what is acknowledged now
abbrev pub IsAckedAtMostReported : Flow → State → Type 0
IsAckedAtMostReported f s = Meets (NodeLows (acked_of f s)) (MessageLows (acked_of f s)) s

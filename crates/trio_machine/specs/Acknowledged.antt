-- What is acknowledged: at most what each replica that is up reported, and no producer or message is beyond it. What is acknowledged never
-- falls, so what a message said of it stays true.
use Rattle.std.specs.Prelude.{◌≡◌, ◌≤◌, ◌<◌, ℕ, true, ◌+◌, ◌==◌, if◌then◌else◌}
use Rattle.tuple_edge.specs.declared.node.EdgeId.{EdgeId}
use Rattle.pair_machine.specs.Drain.{partition}
use Rattle.pair_machine.specs.Flow.{Flow}
use Rattle.pair_machine.specs.Numbers.{ingress_edge, out_edge}
use Rattle.trio_machine.specs.Machine.{State, controller_in, egress_in, ingress_in, replica_in}
use Rattle.trio_machine.specs.Messages.{Message, Ack}
use Rattle.trio_machine.specs.Numbers.{Replica, Gone, Running, Controller, Node, group_size}
use Rattle.trio_machine.specs.declared.node.TrioNode.{TrioNode}
use Rattle.trio_machine.specs.declared.node.TrioNode.TheVariants as node

-- up to which number an edge is acknowledged: by the controller of its consumers, or by what egress told
abbrev pub acked_of : Flow → State → EdgeId → ℕ
acked_of f s e = if e.stage == f.stages then (egress_in (s.nodes node.Egress)).told e.from else (controller_in (s.nodes (node.Control (e.stage + 1) e.to))).acked e.from

-- the lows of a replica that runs are at most what is acknowledged
abbrev pub ReplicaLows : (ℕ → ℕ) → Replica → Type 0
ReplicaLows acked Gone = Unit {0}
ReplicaLows acked (Running x) = (t : ℕ) → x.producer.lows t ≤ acked t

-- a controller acknowledges at most the report of each replica that is up
abbrev pub ControllerAcks : Controller → Type 0
ControllerAcks x = (q c : ℕ) → c < group_size → x.up c ≡ true → x.acked q ≤ x.reports c q

-- what a producer forgets is acknowledged, and what a controller acknowledges each replica that it holds up has reported
abbrev pub NodeLows : (EdgeId → ℕ) → TrioNode → Node → Type 0
NodeLows acked node.Ingress x = (t : ℕ) → (ingress_in x).producer.lows t ≤ acked (ingress_edge 0 t)
NodeLows acked (node.Replica s p c) x = ReplicaLows (λ t. acked (out_edge (partition s p) t)) (replica_in x)
NodeLows acked (node.Control s p) x = ControllerAcks (controller_in x)
NodeLows acked node.Egress x = Unit {0}

-- an acknowledgement is at most what is acknowledged
abbrev pub MessageLows : (EdgeId → ℕ) → Message → Type 0
MessageLows acked (Ack e k) = k ≤ acked e
MessageLows acked m = Unit {0}

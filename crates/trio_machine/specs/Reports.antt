-- What replicas tell their controller is true: a replica that runs has taken what it reported, and one that was said to be down is gone. The
-- marks of a replica that runs never fall, and none that is gone comes back, so what a message said stays true. Hence a controller holds each
-- replica up that runs.
use Rattle.std.specs.Prelude.{◌≡◌, ◌≤◌, ℕ, true}
use Rattle.pair_machine.specs.Drain.{partition}
use Rattle.pair_machine.specs.Numbers.{Partition}
use Rattle.trio_machine.specs.Machine.{State, controller_in, replica_in}
use Rattle.trio_machine.specs.Messages.{Message, Down, Report}
use Rattle.trio_machine.specs.Numbers.{Replica, Gone, Running, Controller, Node, replica_at}
use Rattle.trio_machine.specs.declared.node.TrioNode.{TrioNode}
use Rattle.trio_machine.specs.declared.node.TrioNode.TheVariants as node

-- ---- replicas

-- the replicas of all groups
abbrev pub replicas_of : State → Partition → ℕ → Replica
replicas_of s p c = replica_in (s.nodes (replica_at p c))

-- a replica runs, and isn't gone
abbrev pub IsRunning : Replica → Type 0
IsRunning Gone = ⊥
IsRunning (Running x) = Unit {0}

-- the mark of a replica that runs is at least k
abbrev pub MarkAtLeast : ℕ → ℕ → Replica → Type 0
MarkAtLeast q k Gone = Unit {0}
MarkAtLeast q k (Running x) = k ≤ x.consumer.marks q

-- P holds of the replica that a node is
abbrev pub OfReplica : (Partition → ℕ → Replica) → (Replica → Type 0) → TrioNode → Type 0
OfReplica replicas P node.Ingress = Unit {0}
OfReplica replicas P (node.Replica s p c) = P (replicas (partition s p) c)
OfReplica replicas P (node.Control s p) = Unit {0}
OfReplica replicas P node.Egress = Unit {0}

-- ---- what is told

-- the sender of a report has taken what it reports, and one that says that it is down is gone
abbrev pub MessageReports : (Partition → ℕ → Replica) → TrioNode → Message → Type 0
MessageReports replicas from (Report e k) = OfReplica replicas (MarkAtLeast e.from k) from
MessageReports replicas from Down = OfReplica replicas (λ r. IsRunning r → ⊥) from
MessageReports replicas from m = Unit {0}

-- what a controller was reported its replicas have taken, and it holds those up that run
pub record KnowsItsReplicas (replicas : ℕ → Replica) (x : Controller) : Type 0 where
  pub reports : (c q : ℕ) → MarkAtLeast q (x.reports c q) (replicas c)
  pub up : (c : ℕ) → IsRunning (replicas c) → x.up c ≡ true

-- a controller knows its replicas rightly; of the other nodes nothing is asked here
abbrev pub NodeReports : (Partition → ℕ → Replica) → TrioNode → Node → Type 0
NodeReports replicas node.Ingress x = Unit {0}
NodeReports replicas (node.Replica s p c) x = Unit {0}
NodeReports replicas (node.Control s p) x = KnowsItsReplicas (replicas (partition s p)) (controller_in x)
NodeReports replicas node.Egress x = Unit {0}

-- Sound: what holds in every state that the machine reaches, in the form that each step keeps; and what takeover owes, which follows from
-- it. Owed says that whatever a producer made above the mark of a counted consumer is in the producer's buffer.
use Rattle.std.specs.Prelude.{◌≡◌, ◌≤◌, ◌<◌, ℕ, true}
use Rattle.tuple_edge.specs.declared.node.EdgeId.{EdgeId}
use Rattle.pair_machine.specs.Boundary.{egress_edge}
use Rattle.pair_machine.specs.CountLaws.{IsOfStage}
use Rattle.pair_machine.specs.Flow.{Flow}
use Rattle.pair_machine.specs.Lists.{Each}
use Rattle.pair_machine.specs.Numbers.{Partition, in_edge, ingress_edge, out_edge}
use Rattle.trio_machine.specs.Acknowledged.{MessageLows, NodeLows, acked_of}
use Rattle.trio_machine.specs.Lengths.{MessageBound, NodeBound}
use Rattle.trio_machine.specs.Links.{IsCarried}
use Rattle.trio_machine.specs.Machine.{State, controller_in, egress_in, ingress_in}
use Rattle.trio_machine.specs.Messages.{Message}
use Rattle.trio_machine.specs.Reports.{IsRunning, MarkAtLeast, MessageReports, NodeReports, replicas_of}
use Rattle.trio_machine.specs.Numbers.{Replica, Gone, Running, Node, control_at, group_size}
use Rattle.trio_machine.specs.declared.node.TrioNode.{TrioNode}
use Rattle.trio_machine.specs.declared.node.TrioNode.TheVariants as node

-- a node's numbers are within the lengths, its lows and acknowledgements are at most what is acknowledged and reported, and what it knows
-- of replicas is true
pub record IsSoundNode (f : Flow) (acked : EdgeId → ℕ) (replicas : Partition → ℕ → Replica) (n : TrioNode) (x : Node) : Type 0 where
  pub bound : NodeBound f n x
  pub lows : NodeLows acked n x
  pub reports : NodeReports replicas n x

-- a message stands where it may, its number is within the lengths and at most what is acknowledged, and what it tells is true
pub record IsSoundMessage (f : Flow) (acked : EdgeId → ℕ) (replicas : Partition → ℕ → Replica) (from to : TrioNode) (m : Message) : Type 0 where
  pub carried : IsCarried f from to m
  pub bound : MessageBound f m
  pub lows : MessageLows acked m
  pub reports : MessageReports replicas from m

-- so it is of all nodes and of all that was ever sent
pub record IsSound (f : Flow) (s : State) : Type 0 where
  pub nodes : (n : TrioNode) → IsSoundNode f (acked_of f s) (replicas_of s) n (s.nodes n)
  pub sent : (from to : TrioNode) → Each (IsSoundMessage f (acked_of f s) (replicas_of s) from to) (s.sent from to)

-- ---- what takeover owes

-- the low of a producer that runs is at most k
abbrev pub LowAtMost : ℕ → ℕ → Replica → Type 0
LowAtMost t k Gone = Unit {0}
LowAtMost t k (Running x) = x.producer.lows t ≤ k

-- a replica is counted where its controller holds it up
abbrev pub IsCounted : State → Partition → ℕ → Type 0
IsCounted s p c = (controller_in (s.nodes (control_at p))).up c ≡ true

-- of each edge: each producer that runs forgot at most what is acknowledged, and that each counted consumer that runs has taken
pub record IsOwed (f : Flow) (s : State) : Type 0 where
  pub ingress : (t : ℕ) → (ingress_in (s.nodes node.Ingress)).producer.lows t ≤ acked_of f s (ingress_edge 0 t)
  pub producers : (p : Partition) (c t : ℕ) → IsOfStage f p → LowAtMost t (acked_of f s (out_edge p t)) (replicas_of s p c)
  pub consumers : (p : Partition) (c q : ℕ) → IsOfStage f p → c < group_size → IsCounted s p c → MarkAtLeast q (acked_of f s (in_edge p q)) (replicas_of s p c)
  pub egress : (q : ℕ) → acked_of f s (egress_edge f q) ≤ (egress_in (s.nodes node.Egress)).marks q

-- ---- counted and lost

-- replica c of a group serves where it runs and is counted
pub record Serves (s : State) (p : Partition) (c : ℕ) : Type 0 where
  pub there : c < group_size
  pub running : IsRunning (replicas_of s p c)
  pub counted : IsCounted s p c

-- a replica of the group serves
abbrev pub IsServed : State → Partition → Type 0
IsServed s p = (c : ℕ) × Serves s p c

-- a group is lost where no counted replica of it runs
abbrev pub IsLost : State → Partition → Type 0
IsLost s p = IsServed s p → ⊥

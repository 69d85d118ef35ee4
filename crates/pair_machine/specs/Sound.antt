-- Sound: what holds in every state that the machine reaches, in the form that each step keeps; and what takeover owes, which follows
-- from it. Owed says that whatever a producer made above the mark of a counted consumer is in the producer's buffer.
use Rattle.std.specs.Prelude.{◌≡◌, ◌⊎◌, ◌≤◌, ℕ, true}
use Rattle.tuple_edge.specs.declared.node.NodeId.TheVariants as node
use Rattle.tuple_edge.specs.declared.node.Which.{Which}
use Rattle.tuple_edge.specs.declared.node.Which.TheVariants.{A, B}
use Rattle.pair_machine.specs.Numbers.{Replica, Gone, Running, Gathering, Watched, Partition, replica_at, control_at, in_edge, ingress_edge, out_edge}
use Rattle.pair_machine.specs.Flow.{Flow}
use Rattle.pair_machine.specs.Replicas.{inc_of}
use Rattle.pair_machine.specs.Controllers.{counts}
use Rattle.pair_machine.specs.Boundary.{egress_edge}
use Rattle.pair_machine.specs.Machine.{State, replica_in, controller_in, egress_in, ingress_in}
use Rattle.pair_machine.specs.Links.{AreBetweenNodes, AreOnTheirLinks}
use Rattle.pair_machine.specs.Lengths.{IsWithinLengths}
use Rattle.pair_machine.specs.Acknowledged.{IsAckedAtMostReported, acked_of}
use Rattle.pair_machine.specs.Pairs.{ArePairsSound, Side, side_of}

-- what holds in every state that events reach, in a form that each step keeps
pub record IsSound (f : Flow) (s : State) : Type 0 where
  pub ends : AreBetweenNodes f s
  pub carried : AreOnTheirLinks f s
  pub bound : IsWithinLengths f s
  pub acked : IsAckedAtMostReported f s
  pub pairs : ArePairsSound f s

-- ---- what takeover owes

-- the low of a producer that runs is at most k
abbrev pub LowAtMost : ℕ → ℕ → Replica → Type 0
LowAtMost t k (Gone i) = Unit {0}
LowAtMost t k (Running x) = x.producer.lows t ≤ k
LowAtMost t k (Gathering g) = Unit {0}

-- the mark of a counted consumer that runs is at least k
abbrev pub MarkAtLeast : ℕ → ℕ → Watched → Replica → Type 0
MarkAtLeast q k h (Gone i) = Unit {0}
MarkAtLeast q k h (Running x) = counts h x.inc ≡ true → k ≤ x.consumer.marks q
MarkAtLeast q k h (Gathering g) = Unit {0}

-- of each edge: each producer that runs forgot at most what is acknowledged, and that each counted consumer that runs has taken
pub record IsOwed (f : Flow) (s : State) : Type 0 where
  pub ingress : (q t : ℕ) → ((ingress_in (s.nodes node.Ingress)).producers q).lows t ≤ acked_of f s (ingress_edge q t)
  pub producers : (p : Partition) (w : Which) (t : ℕ) → 1 ≤ p.stage → p.stage ≤ f.stages → LowAtMost t (acked_of f s (out_edge p t)) (replica_in (s.nodes (replica_at p w)))
  pub consumers : (p : Partition) (w : Which) (q : ℕ) → 1 ≤ p.stage → p.stage ≤ f.stages →
      MarkAtLeast q (acked_of f s (in_edge p q)) ((controller_in (s.nodes (control_at p))).watched w) (replica_in (s.nodes (replica_at p w)))
  pub egress : (q : ℕ) → acked_of f s (egress_edge f q) ≤ (egress_in (s.nodes node.Egress)).marks q

-- ---- counted and lost

-- a replica runs; one that gathers doesn't run yet
abbrev pub IsRunning : Replica → Type 0
IsRunning (Gone i) = ⊥
IsRunning (Running x) = Unit {0}
IsRunning (Gathering g) = ⊥

-- a replica is counted where its controller doesn't hold it down and both have the same incarnation
abbrev pub IsCounted : Side → Type 0
IsCounted a = counts a.watched (inc_of a.replica) ≡ true

-- a replica serves where it runs and is counted
abbrev pub Serves : Side → Type 0
Serves a = IsRunning a.replica × IsCounted a

-- a replica of the pair serves
abbrev pub IsServed : State → Partition → Type 0
IsServed s p = Serves (side_of s p A) ⊎ Serves (side_of s p B)

-- a pair is lost where no counted replica of it runs
abbrev pub IsLost : State → Partition → Type 0
IsLost s p = IsServed s p → ⊥

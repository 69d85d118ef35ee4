-- What contracts see of a controller, and the machine's numbers that it has.
use Rattle.std.specs.Prelude.{◌≡◌, ◌≢◌, ◌<◌, ◌≤◌, ◌⊎◌, ℕ, Bool, List, Option, MatchOption, length, max, slice_index}
use Rattle.tuple_edge.specs.declared.node.Which.{Which}
use Rattle.tuple_edge.specs.declared.node.Which.TheVariants.{A, B}
use Rattle.tuple_edge.specs.declared.status.Status.{Status}
use Rattle.tuple_edge.specs.declared.status.Status.TheVariants as status
use Rattle.pair_machine.specs.Consumers.{with_at}
use Rattle.pair_machine.specs.Controllers.{least_of}
use Rattle.pair_machine.specs.Numbers.{Controller, Partition, Watched}

-- what a controller knows of one replica: its status and incarnation, what it reported of each in-edge, and whether it is to be
-- stopped or brought back
pub record WatchedView : Type 0 where
  pub status : Status
  pub inc : ℕ
  pub reports : List ℕ
  pub stop : Bool
  pub back : Bool

-- the controller of a partition's pair: what it knows of both replicas, up to which number it acknowledged each in-edge, its term, and
-- who leads
pub record ControllerView : Type 0 where
  pub stage : ℕ
  pub part : ℕ
  pub a : WatchedView
  pub b : WatchedView
  pub acked : List ℕ
  pub term : ℕ
  pub leader : Option Which

-- one of two, by the replica that it is of
abbrev pub by_which : {X : Type 0} → X → X → Which → X
by_which a b A = a
by_which a b B = b

-- what is known of a replica
abbrev pub watched_of : ControllerView → Which → WatchedView
watched_of c w = by_which c.a c.b w

-- who leads is up, and where nobody leads neither replica is
abbrev pub IsLed : Option Which → Status → Status → Type 0
IsLed leader a b = MatchOption leader ((a ≢ status.Up) × (b ≢ status.Up)) (λ w. by_which a b w ≡ status.Up)

-- of in-edge q at least the least report of the replicas that aren't down is acknowledged
abbrev pub IsAcknowledged : WatchedView → WatchedView → List ℕ → ℕ → Type 0
IsAcknowledged a b acked q =
    least_of (slice_index acked q) a.status (slice_index a.reports q) b.status (slice_index b.reports q) ≤ slice_index acked q

-- so it is of each in-edge but those from the first number up to below the end
pub record AreAcknowledgedBut (a b : WatchedView) (acked : List ℕ) (first end : ℕ) : Type 0 where
  pub others : (q : ℕ) → (q < first) ⊎ (end ≤ q) → IsAcknowledged a b acked q

-- What is true of each controller: it is of a stage, it has few in-edges and knows what either replica reported of each of them, who
-- leads is up, and only of the in-edges that it holds to be due more may be reported than is acknowledged.
pub record IsPairControl (stage : ℕ) (a b : WatchedView) (acked : List ℕ) (leader : Option Which) (first_due end_due : ℕ) : Type 0 where
  pub stage_counts : 1 ≤ stage
  pub few_edges : length acked ≤ 8
  pub a_reports : length a.reports ≡ length acked
  pub b_reports : length b.reports ≡ length acked
  pub led : IsLed leader a.status b.status
  pub due_from : first_due ≤ length acked
  pub due_to : end_due ≤ length acked
  pub acknowledged : AreAcknowledgedBut a b acked first_due end_due

-- not both replicas are up
abbrev pub IsOneAway : ControllerView → Type 0
IsOneAway c = (c.a.status ≢ status.Up) ⊎ (c.b.status ≢ status.Up)

-- one of the replicas is catching up
abbrev pub IsOneCatching : ControllerView → Type 0
IsOneCatching c = (c.a.status ≡ status.Catching) ⊎ (c.b.status ≡ status.Catching)

-- ---- the machine's numbers

-- the partition of this stage that has this number
abbrev pub partition_at : ℕ → ℕ → Partition
partition_at stage part = record { stage = stage; part = part }

-- the partition that the pair runs
abbrev pub partition_of : ControllerView → Partition
partition_of c = partition_at c.stage c.part

-- the number at each place of a list
abbrev pub numbers_in : List ℕ → ℕ → ℕ
numbers_in xs q = slice_index xs q

-- what a controller knows of a replica, in the machine's numbers
abbrev pub watched_numbers : WatchedView → Watched
watched_numbers h = record { status = h.status; inc = h.inc; reports = numbers_in h.reports; stop = h.stop; back = h.back }

-- what is known of a replica that reported an in-edge up to a number: what was reported never falls
abbrev pub reported : Watched → ℕ → ℕ → Watched
reported h edge upto = record h { reports = with_at h.reports edge (max (h.reports edge) upto) }

-- the numbers that the machine has of this controller
abbrev pub numbers_of : ControllerView → Controller
numbers_of c = record { watched = by_which (watched_numbers c.a) (watched_numbers c.b); acked = numbers_in c.acked; term = c.term; leader = c.leader }

-- What contracts see of a controller, and the machine's numbers that it has.
use Rattle.std.specs.Prelude.{◌≡◌, ◌<◌, ◌≤◌, ℕ, zero, suc, Bool, true, IsTrue, List, MatchOption, Option, None, Some, if◌then◌else◌, length, max, replicate, slice_index, slice_index_or, slice_set}
use Rattle.pair_machine.specs.Numbers.{Partition}
use Rattle.pair_machine.specs.Drain.{partition}
use Rattle.trio_machine.specs.Controllers.{least_with}
use Rattle.trio_machine.specs.Numbers.{Controller, control_at, group_size}
use Rattle.trio_machine.specs.declared.node.TrioNode.{TrioNode}

-- what a controller knows of one replica: whether it is up, and up to which number it reported each in-edge
pub record TrioWatchedView : Type 0 where
  pub up : Bool
  pub reports : List ℕ

-- the controller of a partition's group: what it knows of each replica, up to which number it acknowledged each in-edge, its term, and who
-- leads
pub record ControllerView : Type 0 where
  pub stage : ℕ
  pub part : ℕ
  pub watched : List TrioWatchedView
  pub acked : List ℕ
  pub term : ℕ
  pub leader : Option ℕ

-- a replica that is up and of which nothing was heard
abbrev pub unheard : ℕ → TrioWatchedView
unheard edges = record { up = true; reports = replicate edges 0 }

-- a controller with so many in-edges as it opens
abbrev pub opening : (stage part edges : ℕ) → ControllerView
opening stage part edges =
    record { stage = stage; part = part; watched = replicate group_size (unheard edges); acked = replicate edges 0; term = 1; leader = Some 0 }

-- what is known of replica c
abbrev pub watched_in : List TrioWatchedView → ℕ → TrioWatchedView
watched_in watched c = slice_index_or watched c (unheard 0)

-- replica c is there, and up
pub record IsUp (watched : List TrioWatchedView) (c : ℕ) : Type 0 where
  pub there : c < length watched
  pub up : IsTrue (watched_in watched c).up

-- who leads is up, and where nobody leads nobody is
abbrev pub IsLed : Option ℕ → List TrioWatchedView → Type 0
IsLed leader watched = MatchOption leader ((c : ℕ) → IsUp watched c → ⊥) (IsUp watched)

-- each replica is known by as many reports as there are in-edges
abbrev pub HaveReports : ℕ → List TrioWatchedView → Type 0
HaveReports edges watched = (c : ℕ) → c < length watched → length (watched_in watched c).reports ≡ edges

-- what is true of each controller
pub record IsControl (at : ℕ) (watched : List TrioWatchedView) (acked : List ℕ) (leader : Option ℕ) : Type 0 where
  pub stage : 1 ≤ at
  pub few : length acked ≤ 8
  pub three : length watched ≡ group_size
  pub reports : HaveReports (length acked) watched
  pub led : IsLed leader watched

-- ---- the machine's numbers

-- the partition that the group runs
abbrev pub partition_of : ControllerView → Partition
partition_of c = partition c.stage c.part

-- the name of the controller in its plan
abbrev pub node_of : ControllerView → TrioNode
node_of c = control_at (partition_of c)

-- the number at each place of a list
abbrev pub numbers_in : List ℕ → ℕ → ℕ
numbers_in xs q = slice_index xs q

-- the numbers that the machine has of this controller
abbrev pub numbers_of : ControllerView → Controller
numbers_of c = record {
  up = λ d. (watched_in c.watched d).up;
  reports = λ d. numbers_in (watched_in c.watched d).reports;
  acked = numbers_in c.acked;
  term = c.term;
  leader = c.leader;
}

-- ---- what is heard

-- a replica that is up reports an in-edge up to a number; what was reported never falls
abbrev pub heard : TrioWatchedView → ℕ → ℕ → TrioWatchedView
heard w q k = if w.up then record w { reports = slice_set w.reports q (max (slice_index w.reports q) k) } else w

-- the least report of in-edge q by those of the first n replicas that are up; none where none is up
abbrev pub least_report : List TrioWatchedView → (q n : ℕ) → Option ℕ
least_report watched q zero = None
least_report watched q (suc n) =
    if (watched_in watched n).up then Some (least_with (least_report watched q n) (slice_index (watched_in watched n).reports q)) else least_report watched q n

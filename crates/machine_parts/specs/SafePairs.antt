-- Why no pair of a safe script is lost: four facts of each pair, which every step within the script keeps.
use Rattle.std.specs.Prelude.{◌≡◌, ◌≤◌, ◌⊎◌, ℕ, Bool, true, false, List, Ok}
use Rattle.tuple_edge.specs.Input.{Input}
use Rattle.tuple_edge.specs.declared.event.Event.{Event}
use Rattle.tuple_edge.specs.declared.node.NodeId.{NodeId}
use Rattle.tuple_edge.specs.declared.node.Which.{Which}
use Rattle.tuple_edge.specs.declared.node.Which.TheVariants.{A, B}
use Rattle.tuple_edge.specs.declared.status.Status.TheVariants as status
use Rattle.plan_reader.specs.PlanView.{IsPlan, PlanView}
use Rattle.pair_machine.specs.Controllers.{is_down}
use Rattle.pair_machine.specs.Counts.{flow_of}
use Rattle.pair_machine.specs.Legal.{HoldsThroughout, IsLegal}
use Rattle.pair_machine.specs.Links.{AreOnTheirLinks, IsThere}
use Rattle.pair_machine.specs.Lists.{Among}
use Rattle.pair_machine.specs.Machine.{State, opening, step}
use Rattle.pair_machine.specs.Messages.{AskStop, Caught, Down, Stop}
use Rattle.pair_machine.specs.Numbers.{Partition, other, replica_at}
use Rattle.pair_machine.specs.Pairs.{Side, side_of}
use Rattle.pair_machine.specs.Scripts.{AreWithin, IsAllowed, IsSafe}
use Rattle.pair_machine.specs.Sound.{IsRunning, IsServed}
use Rattle.pair_machine.specs.declared.order.Order.{Order}
use Rattle.machine_parts.specs.Parts.{IncarnationsAreInOrder}

-- the script has such an order for the replica: to fail, or to stop
abbrev pub HasOrder : Bool → List Order → NodeId → Type 0
HasOrder kill script n = (o : Order) × Among o script × (o.node ≡ n) × (o.kill ≡ kill)

-- the script has an order for the replica to fail
abbrev pub MayFail : List Order → NodeId → Type 0
MayFail script n = HasOrder true script n

-- the script has an order for the replica to stop
abbrev pub MayStop : List Order → NodeId → Type 0
MayStop script n = HasOrder false script n

-- 1: notices of failure come of a replica that may fail, requests to be stopped of one that may stop, and only that one's stop is wanted
pub record AreNoticesOrdered (script : List Order) (n : NodeId) (a : Side) : Type 0 where
  pub downs : (i : ℕ) → Among (Down i) a.up → MayFail script n
  pub asks : (i : ℕ) → Among (AskStop i) a.up → MayStop script n
  pub wanted : a.watched.stop ≡ true → MayStop script n

-- 2: no stop names the present incarnation of a replica that isn't down
abbrev pub AreStopsOver : Side → Type 0
AreStopsOver a = is_down a.watched.status ≡ false → Among (Stop a.watched.inc) a.down → ⊥

-- 3: a replica runs where it is up, and where it is catching up and told that it has caught up
pub record RunsWhereUp (a : Side) : Type 0 where
  pub up : a.watched.status ≡ status.Up → IsRunning a.replica
  pub caught : a.watched.status ≡ status.Catching → Among (Caught a.watched.inc) a.up → IsRunning a.replica

-- 4: the partner of a replica that may fail is up, and of every pair one replica at least
pub record OneIsUp (script : List Order) (s : State) (p : Partition) : Type 0 where
  pub partner : (w : Which) → MayFail script (replica_at p w) → (side_of s p (other w)).watched.status ≡ status.Up
  pub one : ((side_of s p A).watched.status ≡ status.Up) ⊎ ((side_of s p B).watched.status ≡ status.Up)

-- the four facts of a pair; the third is of the replicas that may not fail
pub record IsSafePair (script : List Order) (s : State) (p : Partition) : Type 0 where
  pub notices : (w : Which) → AreNoticesOrdered script (replica_at p w) (side_of s p w)
  pub stops : (w : Which) → AreStopsOver (side_of s p w)
  pub runs : (w : Which) → (MayFail script (replica_at p w) → ⊥) → RunsWhereUp (side_of s p w)
  pub up : OneIsUp script s p

-- the four facts hold of each pair
abbrev pub ArePairsSafe : List Order → State → Type 0
ArePairsSafe script s = (p : Partition) → 1 ≤ p.stage → IsSafePair script s p

-- they hold at the opening, whatever the script
abbrev pub OpeningPairsAreSafe : Type 0
OpeningPairsAreSafe = (script : List Order) → ArePairsSafe script opening

-- each step within a safe script keeps them; of soundness this uses that messages stand on their links, and that incarnations are in order
abbrev pub SafePairsStaySafe : Type 0
SafePairsStaySafe = (plan : PlanView) (inputs : List Input) → IsPlan plan → (script : List Order) → IsSafe script → (s t : State) (e : Event) → IsThere (flow_of plan inputs) e → IsAllowed script s e
    → AreOnTheirLinks (flow_of plan inputs) s → IncarnationsAreInOrder (flow_of plan inputs) s → ArePairsSafe script s → step (flow_of plan inputs) s e ≡ Ok t → ArePairsSafe script t

-- and where they hold, a counted replica of each pair runs
abbrev pub SafePairsAreServed : Type 0
SafePairsAreServed = (plan : PlanView) (inputs : List Input) → IsPlan plan → (script : List Order) → IsSafe script → (s : State)
    → IncarnationsAreInOrder (flow_of plan inputs) s → ArePairsSafe script s → (p : Partition) → 1 ≤ p.stage → IsServed s p

-- so they hold in every state along a legal list of events within a safe script
abbrev pub SafePairsHoldThroughout : Type 0
SafePairsHoldThroughout = (plan : PlanView) (inputs : List Input) → IsPlan plan → (script : List Order) → IsSafe script → (es : List Event) (t : State) → IsLegal (flow_of plan inputs) es t
    → AreWithin (flow_of plan inputs) script es → HoldsThroughout (flow_of plan inputs) (ArePairsSafe script) es

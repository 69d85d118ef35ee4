-- What a script's orders mean for the sides of each pair, in the form that each step keeps.
use Rattle.std.specs.Prelude.{◌≡◌, ◌≢◌, ◌≤◌, ◌⊎◌, ℕ, Bool, true, false}
use Rattle.tuple_edge.specs.declared.event.Event.{Event}
use Rattle.tuple_edge.specs.declared.event.Event.TheVariants as event
use Rattle.tuple_edge.specs.declared.node.NodeId.{NodeId}
use Rattle.tuple_edge.specs.declared.node.Which.TheVariants.{A, B}
use Rattle.tuple_edge.specs.declared.status.Status.TheVariants as status
use Rattle.pair_machine.specs.Numbers.{Partition, replica_at}
use Rattle.pair_machine.specs.Messages.{Message, Caught, Down, Stop, AskStop}
use Rattle.pair_machine.specs.Controllers.{is_down}
use Rattle.pair_machine.specs.Lists.{Among, Each}
use Rattle.pair_machine.specs.Machine.{State}
use Rattle.pair_machine.specs.Pairs.{Side, side_of}
use Rattle.pair_machine.specs.Sound.{IsRunning}

-- which replicas have a kill order, and which a stop order
pub record Orders : Type 0 where
  pub kill : NodeId → Bool
  pub stop : NodeId → Bool

-- no kill and no stop but by an order
abbrev pub IsOrderedEvent : Orders → Event → Type 0
IsOrderedEvent o (event.Kill n) = o.kill n ≡ true
IsOrderedEvent o (event.AskStop n) = o.stop n ≡ true
IsOrderedEvent o e = Unit {0}

-- a fact on a notice of failure, on a request to be stopped, or on the incarnation of a stop
abbrev pub OfDown : Type 0 → Message → Type 0
OfDown P (Down i) = P
OfDown P m = Unit {0}

abbrev pub OfAskStop : Type 0 → Message → Type 0
OfAskStop P (AskStop i) = P
OfAskStop P m = Unit {0}

abbrev pub OfStop : (ℕ → Type 0) → Message → Type 0
OfStop P (Stop i) = P i
OfStop P m = Unit {0}

-- what a replica's orders say of its side
pub record IsOrdered (kill stop : Bool) (a : Side) : Type 0 where
  pub downs : Each (OfDown (kill ≡ true)) a.up
  pub asks : Each (OfAskStop (stop ≡ true)) a.up
  pub wanted : a.watched.stop ≡ true → stop ≡ true
  pub stops : Each (OfStop (λ i. is_down a.watched.status ≡ false → i ≢ a.watched.inc)) a.down
  pub runs : kill ≡ false → a.watched.status ≡ status.Up → IsRunning a.replica
  pub caught : kill ≡ false → a.watched.status ≡ status.Catching → Among (Caught a.watched.inc) a.up → IsRunning a.replica

-- who is up: the partner of a replica with a kill order, and of each pair one replica at least
pub record StaysUp (kill_a kill_b : Bool) (a b : Side) : Type 0 where
  pub partner_of_a : kill_a ≡ true → b.watched.status ≡ status.Up
  pub partner_of_b : kill_b ≡ true → a.watched.status ≡ status.Up
  pub one_up : (a.watched.status ≡ status.Up) ⊎ (b.watched.status ≡ status.Up)

pub record IsKept (kill_a stop_a kill_b stop_b : Bool) (a b : Side) : Type 0 where
  pub first : IsOrdered kill_a stop_a a
  pub second : IsOrdered kill_b stop_b b
  pub stays : StaysUp kill_a kill_b a b

-- no pair has two orders of which one is a kill
pub record AreSafe (kill_a stop_a kill_b stop_b : Bool) : Type 0 where
  pub first : kill_a ≡ true → (stop_a ≡ false) × (kill_b ≡ false) × (stop_b ≡ false)
  pub second : kill_b ≡ true → (stop_b ≡ false) × (kill_a ≡ false) × (stop_a ≡ false)

abbrev pub AreOrdersSafe : Orders → Type 0
AreOrdersSafe o = (p : Partition) → AreSafe (o.kill (replica_at p A)) (o.stop (replica_at p A)) (o.kill (replica_at p B)) (o.stop (replica_at p B))

abbrev pub ArePairsKept : Orders → State → Type 0
ArePairsKept o s = (p : Partition) → 1 ≤ p.stage → IsKept (o.kill (replica_at p A)) (o.stop (replica_at p A)) (o.kill (replica_at p B)) (o.stop (replica_at p B)) (side_of s p A) (side_of s p B)

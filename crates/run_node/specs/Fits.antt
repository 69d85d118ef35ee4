-- Which packets came to a node under which index.
use Rattle.std.specs.Prelude.{◌≡◌, ◌<◌, ◌^◌, ℕ, List, [], ◌∷◌, ◌++◌, IsSome, Some, length, slice_get, slice_set}
use Rattle.flux_link.specs.declared.arrival.Arrival.{Arrival}
use Rattle.pair_machine.specs.Courses.{Arrivals}
use Rattle.pair_machine.specs.Lists.{Each}
use Rattle.tuple_edge.specs.declared.event.Event.{Event}
use Rattle.tuple_edge.specs.declared.event.Stamped.{Stamped}
use Rattle.tuple_edge.specs.declared.node.NodeId.{NodeId}
use Rattle.event_log.specs.Views.{makes_after, works_after}
use Rattle.run_node.specs.Ends.{InEndView, InLink}

-- of a node's packets, this one is what came from a node under its index
abbrev pub Came : Arrivals → NodeId → Arrival → Type 0
Came arrived from a = arrived from a.index ≡ Some a.packet

-- all that links gave is what came under its index
abbrev pub Fit : Arrivals → List InLink → Type 0
Fit arrived ins = Each (λ l. Each (Came arrived l.from) l.given) ins

-- an arrival, and the node from which it came
pub record Taken : Type 0 where
  pub from : NodeId
  pub arrival : Arrival

-- a link gave a further arrival, this one, and no other link gave any
pub record HasCome (k : Taken) (before after : List InLink) : Type 0 where
  pub place : ℕ
  pub link : InLink
  pub there : slice_get before place ≡ Some link
  pub from : k.from ≡ link.from
  pub gave : after ≡ slice_set before place (record link { given = link.given ++ k.arrival ∷ [] })

-- an arrival is known to wait at this end, which may give it
abbrev pub HasNext : InEndView → Type 0
HasNext e = IsSome e.next × (length e.link.given < 2 ^ 62)

-- so it is at the end at this place
pub record IsWaiting (ins : List InEndView) (place : ℕ) : Type 0 where
  pub within : place < length ins
  pub next : (e : InEndView) → slice_get ins place ≡ Some e → HasNext e

-- a history has one event more, this one
pub record HasHappened (e : Event) (before after : List Stamped) : Type 0 where
  pub clock : ℕ
  pub added : after ≡ before ++ record { clock = clock; event = e } ∷ []

-- a history has so many events more, pieces of work of this node, each of them with a clock of its own, which follow on one another
pub record HasWorked (node : NodeId) (times : ℕ) (before after : List Stamped) : Type 0 where
  pub clock : ℕ
  pub added : after ≡ before ++ works_after node clock times

-- so many makes, likewise
pub record HasMade (times : ℕ) (before after : List Stamped) : Type 0 where
  pub clock : ℕ
  pub added : after ≡ before ++ makes_after clock times

-- Failure scripts: when one is safe, and which lists of events are within it. A script's order lets a replica fail or ask to be
-- stopped once it has merged so many items, and lets its partner ask for it back; no other failure happens.
use Rattle.std.specs.Prelude.{◌≡◌, ◌≢◌, ◌≤◌, ℕ, true, false, List, [], ◌∷◌, Some, Result, Ok, Err, slice_get}
use Rattle.tuple_edge.specs.declared.event.Event.{Event}
use Rattle.tuple_edge.specs.declared.event.Event.TheVariants as event
use Rattle.tuple_edge.specs.declared.node.NodeId.{NodeId}
use Rattle.tuple_edge.specs.declared.node.NodeId.TheVariants as node
use Rattle.pair_machine.specs.declared.order.Order.{Order}
use Rattle.pair_machine.specs.Numbers.{Node, Replica, Gone, Running, Gathering}
use Rattle.pair_machine.specs.Messages.{Refusal}
use Rattle.pair_machine.specs.Flow.{Flow}
use Rattle.pair_machine.specs.Lists.{Among, Each}
use Rattle.pair_machine.specs.Machine.{State, at_node, opening, replica_in, step}

-- ---- safe scripts

-- both are replicas of one pair
abbrev pub AreOfOnePair : NodeId → NodeId → Type 0
AreOfOnePair (node.Replica s p w) (node.Replica t q v) = (s ≡ t) × (p ≡ q)
AreOfOnePair m n = ⊥

-- no pair has two orders of which one is a kill
abbrev pub IsSafe : List Order → Type 0
IsSafe script = (i j : ℕ) (x y : Order) → slice_get script i ≡ Some x → slice_get script j ≡ Some y → i ≢ j → AreOfOnePair x.node y.node → x.kill ≡ false

-- ---- events within a script

-- the replica runs, and has merged at least k items
abbrev pub HasMerged : ℕ → Replica → Type 0
HasMerged k (Gone i) = ⊥
HasMerged k (Running x) = k ≤ x.consumer.count
HasMerged k (Gathering g) = ⊥

-- an order of the script lets the event happen where the node that steps has these numbers; only failures and what is asked need one
abbrev pub IsAllowedAt : List Order → Event → Node → Type 0
IsAllowedAt script (event.Kill n) x = (o : Order) × Among o script × (o.node ≡ n) × (o.kill ≡ true) × HasMerged o.at (replica_in x)
IsAllowedAt script (event.AskStop n) x = (o : Order) × Among o script × (o.node ≡ n) × (o.kill ≡ false) × HasMerged o.at (replica_in x)
IsAllowedAt script (event.AskBack n) x = (o : Order) × Among o script × (o.node ≡ n) × (back : ℕ) × (o.back ≡ Some back) × HasMerged back (replica_in x)
IsAllowedAt script e x = Unit {0}

-- it lets the event happen in this state: the one node that the event changes decides it
abbrev pub IsAllowed : List Order → State → Event → Type 0
IsAllowed script s e = IsAllowedAt script e (s.nodes (at_node e))

-- the script lets each event happen in the state before it, up to the first refused one; that events are legal isn't said
abbrev pub AreAllowed : Flow → List Order → List Event → Result State Refusal → Type 0
AreAllowed f script [] r = Unit {0}
AreAllowed f script (e ∷ es) (Ok s) = IsAllowed script s e × AreAllowed f script es (step f s e)
AreAllowed f script (e ∷ es) (Err x) = Unit {0}

-- a failure, or what was asked, doesn't happen again
abbrev pub DoesNotRepeat : Event → Event → Type 0
DoesNotRepeat (event.Kill n) later = later ≢ event.Kill n
DoesNotRepeat (event.AskStop n) later = later ≢ event.AskStop n
DoesNotRepeat (event.AskBack n) later = later ≢ event.AskBack n
DoesNotRepeat e later = Unit {0}

-- no node fails twice, asks to be stopped twice or is asked back twice, not even after it was brought back
abbrev pub HappenOnce : List Event → Type 0
HappenOnce [] = Unit {0}
HappenOnce (e ∷ es) = Each (DoesNotRepeat e) es × HappenOnce es

-- the events, from the opening on, are within the script
pub record AreWithin (f : Flow) (script : List Order) (es : List Event) : Type 0 where
  pub allowed : AreAllowed f script es (Ok opening)
  pub once : HappenOnce es

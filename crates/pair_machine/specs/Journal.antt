-- Lists of events put together: what a longer list is legal by, and what of a state decides whether one is. By these laws what nodes did in
-- threads, and what is done with them afterwards, are one legal list within the script.
use Rattle.std.specs.Prelude.{◌≡◌, ◌≢◌, ◌++◌, List, Ok}
use Rattle.tuple_edge.specs.declared.event.Event.{Event}
use Rattle.tuple_edge.specs.declared.event.Event.TheVariants as event
use Rattle.tuple_edge.specs.declared.node.NodeId.{NodeId}
use Rattle.pair_machine.specs.Flow.{Flow}
use Rattle.pair_machine.specs.Legal.{IsLegal, IsLegalFrom}
use Rattle.pair_machine.specs.Lists.{Each}
use Rattle.pair_machine.specs.Machine.{State, at_node, step}
use Rattle.pair_machine.specs.Scripts.{AreWithin}
use Rattle.pair_machine.specs.declared.order.Order.{Order}

-- the event takes no message
abbrev pub TakesNoMessage : Event → Type 0
TakesNoMessage (event.Take l k) = ⊥
TakesNoMessage e = Unit {0}

-- the event needs no order of a script
abbrev pub NeedsNoOrder : Event → Type 0
NeedsNoOrder (event.Kill n) = ⊥
NeedsNoOrder (event.AskStop n) = ⊥
NeedsNoOrder (event.AskBack n) = ⊥
NeedsNoOrder e = Unit {0}

-- a step leaves every node as it was but the one at which it is
abbrev pub StepsAreAtOneNode : Type 0
StepsAreAtOneNode = (f : Flow) (s t : State) (e : Event) → step f s e ≡ Ok t → (n : NodeId) → n ≢ at_node e → t.nodes n ≡ s.nodes n

-- One list after another is legal just where the first leads to a state from which the second is legal. A list leads to one state only.
pub record LegalListsGoOn (f : Flow) : Type 0 where
  pub joined : (s m t : State) (xs ys : List Event) → IsLegalFrom f s xs m → IsLegalFrom f m ys t → IsLegalFrom f s (xs ++ ys) t
  pub split : (s t : State) (xs ys : List Event) → IsLegalFrom f s (xs ++ ys) t → (m : State) × IsLegalFrom f s xs m × IsLegalFrom f m ys t
  pub one_end : (s t u : State) (es : List Event) → IsLegalFrom f s es t → IsLegalFrom f s es u → t ≡ u

-- so it is of every flow, also one that is of no plan
abbrev pub ListsGoOn : Type 0
ListsGoOn = (f : Flow) → LegalListsGoOn f

-- Where no event takes a message, the nodes alone decide: from any state with the same nodes, whatever was sent, the list is legal too, and
-- the nodes that it reaches are the same.
abbrev pub NodesDecide : Type 0
NodesDecide = (f : Flow) (s t u : State) (es : List Event) → Each TakesNoMessage es → u.nodes ≡ s.nodes → IsLegalFrom f s es t → (v : State) × IsLegalFrom f u es v × (v.nodes ≡ t.nodes)

-- the fronts of a list within a script are within it, and so is what goes on without a failure or a request
pub record ListsStayWithin (f : Flow) (script : List Order) : Type 0 where
  pub front : (xs ys : List Event) → AreWithin f script (xs ++ ys) → AreWithin f script xs
  pub more : (xs ys : List Event) → AreWithin f script xs → Each NeedsNoOrder ys → AreWithin f script (xs ++ ys)

-- so it is of every flow and every script, whether the lists are legal or not
abbrev pub FrontsStayWithin : Type 0
FrontsStayWithin = (f : Flow) (script : List Order) → ListsStayWithin f script

-- A legal list within a script goes on with events that take no message and need no order, where these were legal from a state with the nodes
-- that the list reaches, whatever was sent there: both together are legal and within the script, and reach the same nodes.
pub record IsGoneOn (f : Flow) (script : List Order) (es : List Event) (reached : State) : Type 0 where
  pub state : State
  pub legal : IsLegal f es state
  pub within : AreWithin f script es
  pub nodes : state.nodes ≡ reached.nodes

-- so it is of every flow and every script, also one that isn't safe
abbrev pub JournalsGoOn : Type 0
JournalsGoOn = (f : Flow) (script : List Order) (s t u : State) (xs ys : List Event) → IsLegal f xs s → AreWithin f script xs → Each TakesNoMessage ys → Each NeedsNoOrder ys
    → u.nodes ≡ s.nodes → IsLegalFrom f u ys t → IsGoneOn f script (xs ++ ys) t

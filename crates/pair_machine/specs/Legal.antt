-- Legal lists of events, and what holds in every state along one. A list is legal where each of its events is one of the plan, and a step
-- without a refusal from the state before it, from the opening on.
use Rattle.std.specs.Prelude.{◌≡◌, ◌≤◌, ◌++◌, List}
use Rattle.tuple_edge.specs.declared.event.Event.{Event}
use Rattle.pair_machine.specs.Flow.{Flow}
use Rattle.pair_machine.specs.Links.{IsThere}
use Rattle.pair_machine.specs.Lists.{Each}
use Rattle.pair_machine.specs.Machine.{Leads, State, opening}
use Rattle.pair_machine.specs.Numbers.{Partition}
use Rattle.pair_machine.specs.Sound.{IsOwed, IsServed}

-- legal from any state on: the events are the plan's, and lead from the one state to the other, each without a refusal
pub record IsLegalFrom (f : Flow) (s : State) (es : List Event) (t : State) : Type 0 where
  pub there : Each (IsThere f) es
  pub leads : Leads f s es t

-- a legal list of events, and the state that it reaches
abbrev pub IsLegal : Flow → List Event → State → Type 0
IsLegal f es t = IsLegalFrom f opening es t

-- P holds in every state along a list: in the opening, and after each front of it
abbrev pub HoldsThroughout : Flow → (State → Type 0) → List Event → Type 0
HoldsThroughout f P es = (front rest : List Event) (t : State) → front ++ rest ≡ es → Leads f opening front t → P t

-- in every state along the list the buffers hold what takeover owes
abbrev pub IsOwedThroughout : Flow → List Event → Type 0
IsOwedThroughout f es = HoldsThroughout f (IsOwed f) es

-- in every state along the list a counted replica of each pair runs
abbrev pub AreServedThroughout : Flow → List Event → Type 0
AreServedThroughout f es = HoldsThroughout f (λ t. (p : Partition) → 1 ≤ p.stage → IsServed t p) es

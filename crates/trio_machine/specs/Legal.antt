-- Legal lists of events, and lists put together. A list is legal where each of its events is one of the plan, and a step without a refusal
-- from the state before it, from the opening on.
use Rattle.std.specs.Prelude.{◌≡◌, ◌++◌, List}
use Rattle.pair_machine.specs.Flow.{Flow}
use Rattle.pair_machine.specs.Lists.{Each}
use Rattle.trio_machine.specs.Links.{IsThere}
use Rattle.trio_machine.specs.Machine.{Leads, State, opening}
use Rattle.trio_machine.specs.declared.event.TrioEvent.{TrioEvent}

-- legal from any state on: the events are the plan's, and lead from the one state to the other, each without a refusal
pub record IsLegalFrom (f : Flow) (s : State) (es : List TrioEvent) (t : State) : Type 0 where
  pub there : Each (IsThere f) es
  pub leads : Leads f s es t

-- a legal list of events, and the state that it reaches
abbrev pub IsLegal : Flow → List TrioEvent → State → Type 0
IsLegal f es t = IsLegalFrom f opening es t

-- One list after another is legal just where the first leads to a state from which the second is legal. A list leads to one state only.
pub record LegalListsGoOn (f : Flow) : Type 0 where
  pub joined : (s m t : State) (xs ys : List TrioEvent) → IsLegalFrom f s xs m → IsLegalFrom f m ys t → IsLegalFrom f s (xs ++ ys) t
  pub split : (s t : State) (xs ys : List TrioEvent) → IsLegalFrom f s (xs ++ ys) t → (m : State) × IsLegalFrom f s xs m × IsLegalFrom f m ys t
  pub one_end : (s t u : State) (es : List TrioEvent) → IsLegalFrom f s es t → IsLegalFrom f s es u → t ≡ u

-- so it is of every flow
abbrev pub ListsGoOn : Type 0
ListsGoOn = (f : Flow) → LegalListsGoOn f

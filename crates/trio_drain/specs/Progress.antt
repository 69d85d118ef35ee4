-- How far the drain of a core has come: which of the machine's events are done, and that the core stands where they lead.
use Rattle.std.specs.Prelude.{◌≡◌, ◌++◌, Bool, true, false, List, Ok}
use Rattle.trio_machine.specs.Drain.{AreDrainEvents, IsDrainEvent, drain_events}
use Rattle.trio_machine.specs.Legal.{IsLegalFrom}
use Rattle.trio_machine.specs.Machine.{State, step}
use Rattle.trio_machine.specs.Sound.{IsSound}
use Rattle.trio_machine.specs.declared.event.TrioEvent.{TrioEvent}
use Rattle.trio_core.specs.CoreView.{CoreView, flow_in, inputs_of}
use Rattle.trio_core.specs.Stands.{IsCore, StandsFor}
use Rattle.trio_drain.specs.Order.{IsOver, Start, flow_at}

-- these events were done, and the core stands for the state that they reach
pub record IsAfter (b : Start) (core : CoreView) (done : List TrioEvent) : Type 0 where
  pub plan : core.plan ≡ b.plan
  pub inputs : inputs_of core ≡ b.inputs
  pub state : State
  pub legal : IsLegalFrom (flow_at b) b.state done state
  pub ready : AreDrainEvents (flow_at b) done (Ok b.state)
  pub stands : StandsFor core state

-- some of the drain's events were: the first ones
pub record IsWithin (b : Start) (core : CoreView) : Type 0 where
  pub front : List TrioEvent
  pub rest : List TrioEvent
  pub whole : front ++ rest ≡ drain_events (flow_at b) b.state
  pub after : IsAfter b core front

-- what no part of a drain changes
pub record Keeps (old new : CoreView) : Type 0 where
  pub plan : new.plan ≡ old.plan
  pub inputs : inputs_of new ≡ inputs_of old
  pub core : IsCore new

-- ---- one event

-- an event of the drain was applied: it is a step of the machine
abbrev pub IsNext : (old new : CoreView) → TrioEvent → Type 0
IsNext old new e = (s : State) → StandsFor old s → IsSound (flow_in old) s
    → IsDrainEvent (flow_in old) s e × ((t : State) × (step (flow_in old) s e ≡ Ok t) × StandsFor new t)

-- it is none of the drain's, or no step, and nothing was done
pub record IsNone (old new : CoreView) (e : TrioEvent) : Type 0 where
  pub unchanged : new ≡ old
  pub over : (s : State) → StandsFor old s → IsSound (flow_in old) s → IsOver (flow_in old) e s

-- an event was applied as a step of the drain, or nothing was done
abbrev pub IsTried : Bool → (old new : CoreView) → TrioEvent → Type 0
IsTried true old new e = IsNext old new e
IsTried false old new e = IsNone old new e

-- What a core does along a list of events.
use Rattle.std.specs.Prelude.{◌≡◌, ◌++◌, ◌∷◌, List, IsTrue, map}
use Rattle.std.specs.List.{All}
use Rattle.tuple_edge.specs.declared.event.Event.{Event}
use Rattle.plan_reader.specs.Nodes.{names_event}
use Rattle.plan_reader.specs.PlanView.{PlanView}
use Rattle.pair_machine.specs.Machine.{Leads, State, step}
use Rattle.pair_machine.specs.Sound.{IsSound}
use Rattle.run_journal.specs.declared.lined.Lined.{Lined}
use Rattle.flux_core.specs.CoreView.{CoreView, flow_in, inputs_of}
use Rattle.flux_core.specs.Refusals.{IsRefusal}
use Rattle.flux_core.specs.Stands.{StandsFor}
use Rattle.flux_core.specs.declared.apply.Stopped.{Stopped}

-- the events of a text's lines
abbrev pub events_of : List Lined → List Event
events_of lines = map (λ l. l.event) lines

-- each event is one of the plan
abbrev pub AreNamed : PlanView → List Lined → Type 0
AreNamed plan lines = All (λ (l : Lined). IsTrue (names_event plan l.event)) lines

-- from whatever sound state the core stood for, the events lead on without a refusal to one that it stands for then, and that is sound
abbrev pub GoesAlong : CoreView → CoreView → List Event → Type 0
GoesAlong old new es = (s : State) → StandsFor old s → IsSound (flow_in old) s → (t : State) × Leads (flow_in old) s es t × IsSound (flow_in old) t × StandsFor new t

-- the events were applied one after another
pub record IsFollowed (old new : CoreView) (es : List Event) : Type 0 where
  pub goes : GoesAlong old new es
  pub plan : new.plan ≡ old.plan
  pub inputs : inputs_of new ≡ inputs_of old
  pub whole : new.whole ≡ old.whole

-- The events before one of this line were applied, and that one is no step, for this reason.
pub record IsStopped (old new : CoreView) (lines : List Lined) (stop : Stopped) : Type 0 where
  pub front : List Lined
  pub at : Lined
  pub rest : List Lined
  pub lines_are : front ++ at ∷ rest ≡ lines
  pub line : stop.line ≡ at.line
  pub followed : IsFollowed old new (events_of front)
  pub refused : (s : State) → StandsFor new s → IsRefusal (step (flow_in new) s at.event) stop.error

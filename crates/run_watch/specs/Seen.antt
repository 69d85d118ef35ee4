-- What a trace has after a list of events, and what a watched list comes to.
use Rattle.std.specs.Prelude.{◌≡◌, ◌++◌, ◌+◌, Ok, List, length}
use Rattle.pair_machine.specs.Machine.{State, step}
use Rattle.pair_machine.specs.Sound.{IsSound}
use Rattle.run_journal.specs.declared.lined.Lined.{Lined}
use Rattle.flux_core.specs.CoreView.{CoreView, flow_in, inputs_of}
use Rattle.flux_core.specs.Follows.{IsFollowed, IsStopped, events_of}
use Rattle.flux_core.specs.Refusals.{IsRefusal}
use Rattle.flux_core.specs.Stands.{StandsFor}
use Rattle.flux_core.specs.declared.apply.Stopped.{Stopped}
use Rattle.run_watch.specs.TraceView.{TraceView}
use Rattle.run_watch.specs.Watching.{fallen_along, told_along}
use Rattle.run_watch.specs.declared.watching.WatchError.{WatchError}
use Rattle.run_watch.specs.declared.watching.WatchError.TheVariants as error

-- the events were applied one after another, and what is told along them, from whatever sound state the core stood for, was told
pub record HasSeen (old new : CoreView) (before after : TraceView) (es : List Lined) : Type 0 where
  pub followed : IsFollowed old new (events_of es)
  pub told : (s : State) → StandsFor old s → IsSound (flow_in old) s
      → after.told ≡ before.told ++ told_along old.plan (inputs_of old) before.place before.falls es (Ok s)
  pub falls : after.falls ≡ fallen_along before.place before.falls es
  pub place : after.place ≡ before.place + length es

-- why watching ended early: at an event that is no step, those before it applied, or for want of memory, of which nothing is said
abbrev pub HasStopped : CoreView → CoreView → List Lined → WatchError → Type 0
HasStopped old new lines (error.Stopped stop) = IsStopped old new lines stop
HasStopped old new lines error.OutOfMemory = Unit {0}

-- One event was no step, for this reason, and nothing changed; or memory was wanting, of which nothing is said.
pub record HasHaltedAt (old new : CoreView) (at : Lined) (stop : Stopped) : Type 0 where
  pub line : stop.line ≡ at.line
  pub unchanged : new ≡ old
  pub refused : (s : State) → StandsFor old s → IsRefusal (step (flow_in old) s at.event) stop.error

-- a watch ended for this reason: an event was no step, or memory was wanting
abbrev pub HasHalted : CoreView → CoreView → Lined → WatchError → Type 0
HasHalted old new at (error.Stopped stop) = HasHaltedAt old new at stop
HasHalted old new at error.OutOfMemory = Unit {0}

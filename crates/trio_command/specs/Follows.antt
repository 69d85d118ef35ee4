-- What a core does along a list of events.
use Rattle.std.specs.Prelude.{ℕ, ◌≡◌, ◌≢◌, List, Result, Ok, Err}
use Rattle.trio_machine.specs.Machine.{State}
use Rattle.trio_machine.specs.Messages.{Refusal}
use Rattle.trio_machine.specs.Sound.{IsSound}
use Rattle.trio_text.specs.declared.lined.TrioLined.{TrioLined}
use Rattle.trio_core.specs.CoreView.{CoreView, flow_in}
use Rattle.trio_core.specs.Stands.{StandsFor}
use Rattle.trio_core.specs.declared.error.TrioError.TheVariants as error
use Rattle.trio_command.specs.Replaying.{RefusedAt, error_text, refusal_text, replayed}
use Rattle.trio_command.specs.declared.follow.Stopped.{Stopped}

-- a sound state for which a core stands
pub record StandsSound (core : CoreView) (s : State) : Type 0 where
  pub stands : StandsFor core s
  pub sound : IsSound (flow_in core) s

-- from whatever sound state the core stood for, the events lead to one for which it stands then, and which is sound
abbrev pub IsFollowed : CoreView → CoreView → List TrioLined → Type 0
IsFollowed old new lines = (s : State) → StandsSound old s → (t : State) × StandsSound new t × (replayed (flow_in old) lines s ≡ Ok t)

-- the event of this line is refused, for a reason that has this text
pub record IsRefusedAt (r : Result State RefusedAt) (line : ℕ) (text : List ℕ) : Type 0 where
  pub why : Refusal
  pub refused : r ≡ Err (record { line = line; why = why })
  pub said : text ≡ refusal_text why

-- the first of the events that is no step is that of this line; of want of memory nothing is said
abbrev pub IsStopped : CoreView → List TrioLined → Stopped → Type 0
IsStopped old lines stop = stop.error ≢ error.OutOfMemory → (s : State) → StandsSound old s → IsRefusedAt (replayed (flow_in old) lines s) stop.line (error_text stop.error)

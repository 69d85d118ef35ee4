-- What a core does at an event: it finds what the event asks of its node, the node acts, and no other node changes.
use Rattle.std.specs.Prelude.{◌≡◌, ◌≢◌, ◌++◌, ℕ, List, Ok, Some, slice_get, slice_set}
use Rattle.pair_machine.specs.Flow.{Flow}
use Rattle.trio_machine.specs.Links as links
use Rattle.trio_machine.specs.Links.{HasNode}
use Rattle.trio_machine.specs.Machine.{State, act_of, at_node, step}
use Rattle.trio_machine.specs.Messages.{Act}
use Rattle.trio_machine.specs.Sound.{IsSound}
use Rattle.trio_machine.specs.declared.event.TrioEvent.{TrioEvent}
use Rattle.trio_machine.specs.declared.event.TrioEvent.TheVariants as event
use Rattle.trio_machine.specs.declared.node.TrioNode.{TrioNode}
use Rattle.trio_core.specs.Acts.{ActsSo, IsActOf}
use Rattle.trio_core.specs.CoreView.{CoreView, Log, StationView, flow_in, found, inputs_in, inputs_of, name_of}
use Rattle.trio_core.specs.Stands.{StandsFor}
use Rattle.trio_core.specs.declared.task.TrioTask.{TrioTask}

-- an event is one of the plan, and so is the sender of a packet
abbrev pub IsNamed : Flow → TrioEvent → Type 0
IsNamed f (event.Take from to k) = HasNode f from × HasNode f to
IsNamed f e = links.IsThere f e

-- the task is what the event asks of its node: of whatever state the core stands for
abbrev pub IsTaskOf : CoreView → TrioEvent → TrioTask → Type 0
IsTaskOf core e t = (s : State) → StandsFor core s → (a : Act) × (act_of (flow_in core) s e ≡ Ok a) × IsActOf core.plan (inputs_of core) (at_node e) t (s.nodes (at_node e)) a

-- a station did a task, and noted what it sent
pub record HasActed (t : TrioTask) (old new : StationView) : Type 0 where
  pub name : new.name ≡ old.name
  pub member : name_of new.member ≡ name_of old.member
  pub inputs : inputs_in new.member ≡ inputs_in old.member
  pub sent : Log
  pub noted : new.sent ≡ old.sent ++ sent
  pub acts : ActsSo t old.member new.member sent

-- the station at a place did a task
pub record ActedAt (t : TrioTask) (place : ℕ) (olds news : List StationView) : Type 0 where
  pub before : StationView
  pub after : StationView
  pub was : slice_get olds place ≡ Some before
  pub now : news ≡ slice_set olds place after
  pub acted : HasActed t before after

-- The core went on as the machine does: from whatever sound state it stood for, the event is a step of the machine, and the core stands for the
-- state after it.
abbrev pub GoesOn : CoreView → CoreView → TrioEvent → Type 0
GoesOn old new e = (s : State) → StandsFor old s → IsSound (flow_in old) s → (t : State) × (step (flow_in old) s e ≡ Ok t) × StandsFor new t

-- An event was applied: it is the machine's step, from whatever sound state the core stood for, and every node but the event's own is as it was.
pub record IsApplied (old new : CoreView) (e : TrioEvent) : Type 0 where
  pub steps : GoesOn old new e
  pub others : (m : TrioNode) → m ≢ at_node e → found m new.stations ≡ found m old.stations
  pub plan : new.plan ≡ old.plan
  pub inputs : inputs_of new ≡ inputs_of old

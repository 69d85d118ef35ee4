-- What a core does at an event: it finds what the event asks of its node, the node acts, and no other node changes.
use Rattle.std.specs.Prelude.{◌≡◌, ◌≢◌, ◌⊎◌, ◌++◌, ℕ, List, Ok, Some, slice_get, slice_set, true}
use Rattle.tuple_edge.specs.declared.event.Event.{Event}
use Rattle.tuple_edge.specs.declared.node.NodeId.{NodeId}
use Rattle.pair_machine.specs.Drain.{IsDrainable}
use Rattle.pair_machine.specs.Flow.{Flow}
use Rattle.pair_machine.specs.Journal.{TakesNoMessage}
use Rattle.pair_machine.specs.Machine.{State, act_of, at_node, step}
use Rattle.pair_machine.specs.Messages.{Act}
use Rattle.pair_machine.specs.Sound.{IsSound}
use Rattle.plan_reader.specs.PlanView.{PlanView}
use Rattle.plan_nodes.specs.States.{gone_of, has_ended, id_of, inputs_in}
use Rattle.flux_core.specs.Acts.{ActsSo, IsActOf}
use Rattle.flux_core.specs.CoreView.{CoreView, Log, StationView, flow_in, gone_by, inputs_of, station}
use Rattle.flux_core.specs.Stands.{StandsFor}
use Rattle.flux_core.specs.declared.asked.Asked.{Asked}

-- this is what the event asks of its node, of whatever state the core stands for
abbrev pub IsTaskOf : CoreView → Event → Asked → Type 0
IsTaskOf core e t = (s : State) → StandsFor core s → (a : Act) × (act_of (flow_in core) s e ≡ Ok a) × IsActOf core.plan (inputs_of core) (at_node e) t (s.nodes (at_node e)) a

-- the node of a station did what was asked of it, and what it sent was noted
pub record HasActed (t : Asked) (old new : StationView) : Type 0 where
  pub id : id_of new.node ≡ id_of old.node
  pub inputs : inputs_in new.node ≡ inputs_in old.node
  pub ended : has_ended new.node ≡ has_ended old.node
  pub gone : gone_of new.node ≡ gone_of old.node
  pub sent : Log
  pub noted : new.sent ≡ old.sent ++ sent
  pub acts : (plan : PlanView) → ActsSo plan t old.node new.node sent

-- so did the one at a place
pub record ActedAt (t : Asked) (place : ℕ) (olds news : List StationView) : Type 0 where
  pub before : StationView
  pub after : StationView
  pub was : slice_get olds place ≡ Some before
  pub now : news ≡ slice_set olds place after
  pub acted : HasActed t before after

-- a state is sound
abbrev pub HasSoundState : CoreView → Type 0
HasSoundState core = (s : State) × StandsFor core s × IsSound (flow_in core) s

-- a step may be made from a state that is sound, and one that takes no message from any whose buffers hold what takeover owes and whose numbers
-- are within their lengths
abbrev pub MayStep : Flow → State → Event → Type 0
MayStep f s e = IsSound f s ⊎ (TakesNoMessage e × IsDrainable f s)

-- The core went on as the machine does: from whatever state it stood for, the event is a step of the machine, and the core stands for the
-- state after it.
abbrev pub GoesOn : CoreView → CoreView → Event → Type 0
GoesOn old new e = (s : State) → StandsFor old s → MayStep (flow_in old) s e → (t : State) × (step (flow_in old) s e ≡ Ok t) × StandsFor new t

-- an event may be applied to a core that was made as its plan opens; to one made of nodes alone, any that takes no packet, and any where its
-- state is sound
abbrev pub MayApply : CoreView → Event → Type 0
MayApply core e = (core.whole ≡ true) ⊎ (TakesNoMessage e ⊎ HasSoundState core)

-- An event was applied: it is the machine's step, from whatever state the core stood for, and every node but the event's own is as it was. No row
-- was handed on.
pub record IsApplied (old new : CoreView) (e : Event) : Type 0 where
  pub steps : GoesOn old new e
  pub others : (m : NodeId) → m ≢ at_node e → station new m ≡ station old m
  pub plan : new.plan ≡ old.plan
  pub inputs : inputs_of new ≡ inputs_of old
  pub whole : new.whole ≡ old.whole
  pub gone : gone_by new ≡ gone_by old

-- What the drain does to a core and to a list of events, whatever state of the machine the core stood for. A core stands for some state from which
-- the drain may begin: that is part of what is always true of it.
use Rattle.std.specs.Prelude.{◌≡◌, ◌⊎◌, ◌++◌, List}
use Rattle.tuple_edge.specs.declared.event.Drained.{Drained}
use Rattle.tuple_edge.specs.declared.event.Drained.TheVariants as drained
use Rattle.tuple_edge.specs.declared.event.Event.{Event}
use Rattle.pair_machine.specs.CountLaws.{IsOfStage}
use Rattle.pair_machine.specs.Drain.{IsDrainable, IsEgressDone, IsFirstLost, IsQuiet, drain, pairs_up_to, partition}
use Rattle.pair_machine.specs.Flow.{Flow}
use Rattle.pair_machine.specs.Legal.{IsLegalFrom}
use Rattle.pair_machine.specs.Machine.{State}
use Rattle.pair_machine.specs.Numbers.{Partition}
use Rattle.pair_machine.specs.Output.{output}
use Rattle.pair_machine.specs.Sound.{IsServed}
use Rattle.flux_core.specs.CoreView.{CoreView, emitted_by, flow_in, inputs_of}
use Rattle.flux_core.specs.Stands.{StandsFor}

-- a counted replica of each pair of the plan runs
abbrev pub IsEachServed : Flow → State → Type 0
IsEachServed f s = (p : Partition) → IsOfStage f p → IsServed s p

-- From a state the core went on by these events, which stand at the end of the list: each names what the plan has and is a step of the machine, they
-- send nothing, and the core stands for the state that they reach.
pub record GoesBy (old new : CoreView) (before after : List Event) (s : State) (es : List Event) : Type 0 where
  pub appended : after ≡ before ++ es
  pub reached : State
  pub legal : IsLegalFrom (flow_in old) s es reached
  pub quiet : IsQuiet s reached
  pub stands : StandsFor new reached

-- From a state the core went on by just the machine's drain of it, to one in which egress has merged all. Egress had done so already, and then that is
-- no event, or no pair was lost.
pub record IsDrainedFrom (old new : CoreView) (before after : List Event) (s : State) : Type 0 where
  pub may : IsEgressDone (flow_in old) s ⊎ IsEachServed (flow_in old) s
  pub went : GoesBy old new before after s (drain (flow_in old) s)
  pub done : IsEgressDone (flow_in old) went.reached

-- the core was drained, from whatever state it stood for, and all of the output is emitted
pub record IsWhole (old new : CoreView) (before after : List Event) : Type 0 where
  pub drained : (s : State) → StandsFor old s → IsDrainable (flow_in old) s → IsDrainedFrom old new before after s
  pub rows : emitted_by new ≡ output old.plan (inputs_of old)

-- in a state egress has more to merge, and this pair is the first lost one
pub record IsLostIn (f : Flow) (s : State) (p : Partition) : Type 0 where
  pub there : IsOfStage f p
  pub first : IsFirstLost s (pairs_up_to f f.stages) p
  pub undone : IsEgressDone f s → ⊥

-- that is so in whatever state the core stands for, and nothing was done
pub record IsLost (old new : CoreView) (before after : List Event) (p : Partition) : Type 0 where
  pub lost : (s : State) → StandsFor old s → IsLostIn (flow_in old) s p
  pub unchanged : new ≡ old
  pub no_event : after ≡ before

-- how the drain ended
abbrev pub IsDrained : (old new : CoreView) → (before after : List Event) → Drained → Type 0
IsDrained old new before after drained.Whole = IsWhole old new before after
IsDrained old new before after (drained.Lost stage part) = IsLost old new before after (partition stage part)

-- From a state the core went on by the first of the drain's events.
pub record IsCutShortFrom (old new : CoreView) (before after : List Event) (s : State) : Type 0 where
  pub front : List Event
  pub rest : List Event
  pub whole : front ++ rest ≡ drain (flow_in old) s
  pub went : GoesBy old new before after s front

-- where memory is wanting it is so from whatever state the core stood for
abbrev pub IsCutShort : (old new : CoreView) → (before after : List Event) → Type 0
IsCutShort old new before after = (s : State) → StandsFor old s → IsDrainable (flow_in old) s → IsCutShortFrom old new before after s

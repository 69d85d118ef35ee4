-- What the drain does to a core, whatever sound state of the machine the core stood for. A core stands for some sound state: that is part of what is
-- always true of it.
use Rattle.std.specs.Prelude.{◌≡◌, ◌⊎◌, ◌++◌, List}
use Rattle.tuple_edge.specs.declared.event.Drained.{Drained}
use Rattle.tuple_edge.specs.declared.event.Drained.TheVariants as drained
use Rattle.pair_machine.specs.CountLaws.{IsOfStage}
use Rattle.pair_machine.specs.Drain.{pairs_up_to, partition}
use Rattle.pair_machine.specs.Flow.{Flow}
use Rattle.pair_machine.specs.Numbers.{Partition}
use Rattle.pair_machine.specs.Output.{output}
use Rattle.trio_machine.specs.Drain.{IsEgressDone, IsFirstLost, IsQuiet, drain}
use Rattle.trio_machine.specs.Legal.{IsLegalFrom}
use Rattle.trio_machine.specs.Machine.{State}
use Rattle.trio_machine.specs.Sound.{IsSound}
use Rattle.trio_machine.specs.declared.event.TrioEvent.{TrioEvent}
use Rattle.trio_core.specs.CoreView.{CoreView, flow_in, inputs_of}
use Rattle.trio_core.specs.Promises.{emitted_by}
use Rattle.trio_core.specs.Stands.{StandsFor}
use Rattle.trio_drain.specs.Order.{IsEachServed}

-- From a state the core went on by these events: each names what the plan has and is a step of the machine, they send nothing, and the core stands
-- for the state that they reach.
pub record GoesBy (old new : CoreView) (s : State) (es : List TrioEvent) : Type 0 where
  pub reached : State
  pub legal : IsLegalFrom (flow_in old) s es reached
  pub quiet : IsQuiet s reached
  pub stands : StandsFor new reached

-- From a state the core went on by just the machine's drain of it, to one in which egress has merged all. Egress had done so already, and then that is
-- no event, or no group was lost.
pub record IsDrainedFrom (old new : CoreView) (s : State) : Type 0 where
  pub may : IsEgressDone (flow_in old) s ⊎ IsEachServed (flow_in old) s
  pub went : GoesBy old new s (drain (flow_in old) s)
  pub done : IsEgressDone (flow_in old) went.reached

-- the core was drained, from whatever sound state it stood for, and all of the output is emitted
pub record IsWhole (old new : CoreView) : Type 0 where
  pub drained : (s : State) → StandsFor old s → IsSound (flow_in old) s → IsDrainedFrom old new s
  pub rows : emitted_by new ≡ output old.plan (inputs_of old)

-- in a state egress has more to merge, and this group is the first lost one
pub record IsLostIn (f : Flow) (s : State) (p : Partition) : Type 0 where
  pub there : IsOfStage f p
  pub first : IsFirstLost s (pairs_up_to f f.stages) p
  pub undone : IsEgressDone f s → ⊥

-- that is so in whatever state the core stands for, and nothing was done
pub record IsLost (old new : CoreView) (p : Partition) : Type 0 where
  pub lost : (s : State) → StandsFor old s → IsLostIn (flow_in old) s p
  pub unchanged : new ≡ old

-- how the drain ended
abbrev pub IsDrained : (old new : CoreView) → Drained → Type 0
IsDrained old new drained.Whole = IsWhole old new
IsDrained old new (drained.Lost stage part) = IsLost old new (partition stage part)

-- From a state the core went on by the first of the drain's events.
pub record IsCutShortFrom (old new : CoreView) (s : State) : Type 0 where
  pub front : List TrioEvent
  pub rest : List TrioEvent
  pub whole : front ++ rest ≡ drain (flow_in old) s
  pub went : GoesBy old new s front

-- where memory is wanting it is so from whatever sound state the core stood for
abbrev pub IsCutShort : (old new : CoreView) → Type 0
IsCutShort old new = (s : State) → StandsFor old s → IsSound (flow_in old) s → IsCutShortFrom old new s

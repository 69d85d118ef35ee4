-- How far a drain has come: which of the machine's events are done, and that the core stands where they lead.
use Rattle.std.specs.Prelude.{◌≡◌, ◌++◌, ◌-◌, ◌∷◌, [], ℕ, Bool, true, false, List, Ok, replicate}
use Rattle.tuple_edge.specs.Input.{Input}
use Rattle.tuple_edge.specs.declared.event.Event.{Event}
use Rattle.tuple_edge.specs.declared.event.Event.TheVariants as event
use Rattle.tuple_edge.specs.declared.node.NodeId.{NodeId}
use Rattle.tuple_edge.specs.declared.node.NodeId.TheVariants as node
use Rattle.plan_reader.specs.PlanView.{IsPlan, PlanView}
use Rattle.pair_machine.specs.Boundary.{egress_partition}
use Rattle.pair_machine.specs.CountLaws.{IsOfStage}
use Rattle.pair_machine.specs.Counts.{flow_of}
use Rattle.pair_machine.specs.Drain.{AreDrainEvents, IsDrainEvent, IsDrainable, IsEgressDone, consumer_in, drain_events, drain_into, drain_pairs, drainer, pairs_up_to, partition, parts_below, pulls_into}
use Rattle.pair_machine.specs.Flow.{Flow}
use Rattle.pair_machine.specs.Legal.{IsLegalFrom}
use Rattle.pair_machine.specs.Machine.{State, egress_in, ingress_in, new_consumer, replica_in, step}
use Rattle.pair_machine.specs.Numbers.{Consumer, Partition}
use Rattle.flux_core.specs.CoreView.{CoreView, flow_in, gone_by, inputs_of}
use Rattle.flux_core.specs.Stands.{IsCore, StandsFor}
use Rattle.core_drain.specs.Drained.{IsEachServed}

-- ---- where a drain begins

-- the plan and the inputs, a state that the core stood for then, and the events that were listed
pub record Start : Type 0 where
  pub plan : PlanView
  pub inputs : List Input
  pub state : State
  pub events : List Event

-- the numbers of the plan, with its inputs
abbrev pub flow_at : Start → Flow
flow_at b = flow_of b.plan b.inputs

-- the drain may begin there, no pair is lost, and egress has more to merge
pub record MayBegin (b : Start) : Type 0 where
  pub plan : IsPlan b.plan
  pub drainable : IsDrainable (flow_at b) b.state
  pub undone : IsEgressDone (flow_at b) b.state → ⊥
  pub served : IsEachServed (flow_at b) b.state

-- ---- how far it has come

-- these events were done and listed, and the core stands for the state that they reach
pub record IsAfter (b : Start) (core : CoreView) (events done : List Event) : Type 0 where
  pub plan : core.plan ≡ b.plan
  pub inputs : inputs_of core ≡ b.inputs
  pub listed : events ≡ b.events ++ done
  pub state : State
  pub legal : IsLegalFrom (flow_at b) b.state done state
  pub ready : AreDrainEvents (flow_at b) done (Ok b.state)
  pub stands : StandsFor core state

-- some of the drain's events were: the first ones
pub record IsWithin (b : Start) (core : CoreView) (events : List Event) : Type 0 where
  pub front : List Event
  pub rest : List Event
  pub whole : front ++ rest ≡ drain_events (flow_at b) b.state
  pub after : IsAfter b core events front

-- what no part of a drain changes
pub record Keeps (old new : CoreView) : Type 0 where
  pub plan : new.plan ≡ old.plan
  pub inputs : inputs_of new ≡ inputs_of old
  pub whole : new.whole ≡ old.whole
  pub gone : gone_by new ≡ gone_by old
  pub core : IsCore new

-- ---- one event

-- an event of the drain was applied and listed: it is a step of the machine
pub record IsNext (old new : CoreView) (before after : List Event) (e : Event) : Type 0 where
  pub listed : after ≡ before ++ e ∷ []
  pub steps : (s : State) → StandsFor old s → IsDrainable (flow_in old) s → IsDrainEvent (flow_in old) s e × ((t : State) × (step (flow_in old) s e ≡ Ok t) × StandsFor new t)

-- no event of the drain, or none that is a step
abbrev pub IsOver : Flow → Event → State → Type 0
IsOver f e s = IsDrainEvent f s e → (t : State) → step f s e ≡ Ok t → ⊥

-- so it is of the core, and nothing was done
pub record IsNone (old new : CoreView) (before after : List Event) (e : Event) : Type 0 where
  pub unchanged : new ≡ old
  pub no_event : after ≡ before
  pub over : (s : State) → StandsFor old s → IsOver (flow_in old) e s

-- an event was applied as a step of the drain, or nothing was done
abbrev pub IsTried : Bool → (old new : CoreView) → (before after : List Event) → Event → Type 0
IsTried true old new before after e = IsNext old new before after e
IsTried false old new before after e = IsNone old new before after e

-- ---- the same event, as often as the drain has it

-- After the events done the drain goes on with this one n times, and there it is over.
pub record IsBlock (b : Start) (done : List Event) (e : Event) (n : ℕ) : Type 0 where
  pub reached : State
  pub legal : IsLegalFrom (flow_at b) b.state (done ++ replicate n e) reached
  pub ready : AreDrainEvents (flow_at b) (done ++ replicate n e) (Ok b.state)
  pub over : IsOver (flow_at b) e reached
  pub rest : List Event
  pub whole : (done ++ replicate n e) ++ rest ≡ drain_events (flow_at b) b.state

-- ---- the order of the drain

-- the partition of a consumer of the drain: a replica's own, or that of egress
abbrev pub partition_in : Flow → NodeId → Partition
partition_in f node.Ingress = partition 0 0
partition_in f (node.Replica s p w) = partition s p
partition_in f (node.Control s p) = partition 0 0
partition_in f node.Egress = egress_partition f

-- a consumer of the drain: a pair's drainer, or egress
abbrev pub IsTurnOf : Start → NodeId → Type 0
IsTurnOf b node.Ingress = ⊥
IsTurnOf b (node.Replica s p w) = IsOfStage (flow_at b) (partition s p) × (w ≡ drainer b.state (partition s p))
IsTurnOf b (node.Control s p) = ⊥
IsTurnOf b node.Egress = Unit {0}

-- its numbers as the drain begins
abbrev pub consumer_of : Start → NodeId → Consumer
consumer_of b node.Ingress = new_consumer
consumer_of b (node.Replica s p w) = consumer_in (replica_in (b.state.nodes (node.Replica s p w)))
consumer_of b (node.Control s p) = new_consumer
consumer_of b node.Egress = egress_in (b.state.nodes node.Egress)

-- how often ingress is still to make
abbrev pub makes_left : Start → ℕ
makes_left b = (flow_at b).makes - (ingress_in (b.state.nodes node.Ingress)).makes

-- the pairs of the stages before a stage, and the first so many of that stage
abbrev pub pairs_before : Flow → (stage part : ℕ) → List Partition
pairs_before f stage part = pairs_up_to f (stage - 1) ++ parts_below stage part

-- all events before the turn of a partition
abbrev pub done_before : Start → (stage part : ℕ) → List Event
done_before b stage part = replicate (makes_left b) event.Make ++ drain_pairs (flow_at b) b.state (pairs_before (flow_at b) stage part)

-- all events before the turn of a consumer
abbrev pub before_turn : Start → NodeId → List Event
before_turn b to = let p = partition_in (flow_at b) to in done_before b p.stage p.part

-- what a consumer pulls from all its sources
abbrev pub pulls_of : Start → NodeId → List Event
pulls_of b to = pulls_into (flow_at b) b.state (partition_in (flow_at b) to) to (consumer_of b to)

-- what it pulls, and then merges
abbrev pub turn_of : Start → NodeId → List Event
turn_of b to = drain_into (flow_at b) b.state (partition_in (flow_at b) to) to (consumer_of b to)

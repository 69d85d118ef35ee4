-- The order of a drain: where it begins, whose turn it is, and which of the machine's events come before. No core is spoken of here.
use Rattle.std.specs.Prelude.{◌≡◌, ◌++◌, ◌-◌, ℕ, List, Ok, replicate}
use Rattle.tuple_edge.specs.Input.{Input}
use Rattle.plan_reader.specs.PlanView.{PlanView}
use Rattle.pair_machine.specs.Boundary.{egress_partition}
use Rattle.pair_machine.specs.CountLaws.{IsOfStage}
use Rattle.pair_machine.specs.Drain.{pairs_up_to, partition, parts_below}
use Rattle.pair_machine.specs.Flow.{Flow}
use Rattle.pair_machine.specs.Machine.{new_consumer}
use Rattle.pair_machine.specs.Numbers.{Consumer, Partition}
use Rattle.trio_machine.specs.Drain.{AreDrainEvents, IsDrainEvent, IsEgressDone, consumer_in, drain_events, drain_groups, drain_into, pulls_below, server}
use Rattle.trio_machine.specs.Flow.{IsTrioPlan, trio_flow}
use Rattle.trio_machine.specs.Legal.{IsLegalFrom}
use Rattle.trio_machine.specs.Machine.{State, egress_in, ingress_in, replica_in, step}
use Rattle.trio_machine.specs.Sound.{IsServed, IsSound}
use Rattle.trio_machine.specs.declared.event.TrioEvent.{TrioEvent}
use Rattle.trio_machine.specs.declared.event.TrioEvent.TheVariants as event
use Rattle.trio_machine.specs.declared.node.TrioNode.{TrioNode}
use Rattle.trio_machine.specs.declared.node.TrioNode.TheVariants as node

-- ---- where a drain begins

-- the plan and the inputs, and a state that the core stood for then
pub record Start : Type 0 where
  pub plan : PlanView
  pub inputs : List Input
  pub state : State

-- the numbers of the plan, with its inputs
abbrev pub flow_at : Start → Flow
flow_at b = trio_flow b.plan b.inputs

-- a counted replica of each group of the plan runs
abbrev pub IsEachServed : Flow → State → Type 0
IsEachServed f s = (p : Partition) → IsOfStage f p → IsServed s p

-- the drain may begin there, no group is lost, and egress has more to merge
pub record MayBegin (b : Start) : Type 0 where
  pub plan : IsTrioPlan b.plan
  pub sound : IsSound (flow_at b) b.state
  pub undone : IsEgressDone (flow_at b) b.state → ⊥
  pub served : IsEachServed (flow_at b) b.state

-- ---- whose turn it is

-- the partition of a consumer of the drain: a replica's own, or that of egress
abbrev pub partition_in : Flow → TrioNode → Partition
partition_in f node.Ingress = partition 0 0
partition_in f (node.Replica s p c) = partition s p
partition_in f (node.Control s p) = partition 0 0
partition_in f node.Egress = egress_partition f

-- a consumer of the drain: a group's server, or egress
abbrev pub IsTurnOf : Start → TrioNode → Type 0
IsTurnOf b node.Ingress = ⊥
IsTurnOf b (node.Replica s p c) = IsOfStage (flow_at b) (partition s p) × (c ≡ server b.state (partition s p))
IsTurnOf b (node.Control s p) = ⊥
IsTurnOf b node.Egress = Unit {0}

-- its numbers as the drain begins
abbrev pub consumer_of : Start → TrioNode → Consumer
consumer_of b node.Ingress = new_consumer
consumer_of b (node.Replica s p c) = consumer_in (replica_in (b.state.nodes (node.Replica s p c)))
consumer_of b (node.Control s p) = new_consumer
consumer_of b node.Egress = egress_in (b.state.nodes node.Egress)

-- ---- which events come before

-- how often ingress is still to make
abbrev pub makes_left : Start → ℕ
makes_left b = (flow_at b).makes - (ingress_in (b.state.nodes node.Ingress)).makes

-- the groups of the stages before a stage, and the first so many of that stage
abbrev pub groups_before : Flow → (stage part : ℕ) → List Partition
groups_before f stage part = pairs_up_to f (stage - 1) ++ parts_below stage part

-- all events before the turn of a partition
abbrev pub done_before : Start → (stage part : ℕ) → List TrioEvent
done_before b stage part = replicate (makes_left b) event.Make ++ drain_groups (flow_at b) b.state (groups_before (flow_at b) stage part)

-- all events before the turn of a consumer
abbrev pub before_turn : Start → TrioNode → List TrioEvent
before_turn b to = let p = partition_in (flow_at b) to in done_before b p.stage p.part

-- what a consumer pulls from the first n of its sources
abbrev pub pulls_up_to : Start → TrioNode → ℕ → List TrioEvent
pulls_up_to b to n = pulls_below (flow_at b) b.state (partition_in (flow_at b) to) to (consumer_of b to) n

-- what a consumer pulls from all its sources
abbrev pub pulls_of : Start → TrioNode → List TrioEvent
pulls_of b to = pulls_up_to b to ((flow_at b).sources (partition_in (flow_at b) to).stage)

-- what it pulls, and then merges
abbrev pub turn_of : Start → TrioNode → List TrioEvent
turn_of b to = drain_into (flow_at b) b.state (partition_in (flow_at b) to) to (consumer_of b to)

-- ---- the same event, as often as the drain has it

-- no event of the drain, or none that is a step
abbrev pub IsOver : Flow → TrioEvent → State → Type 0
IsOver f e s = IsDrainEvent f s e → (t : State) → step f s e ≡ Ok t → ⊥

-- After the events done the drain goes on with this one n times, and there it is over.
pub record IsBlock (b : Start) (done : List TrioEvent) (e : TrioEvent) (n : ℕ) : Type 0 where
  pub reached : State
  pub legal : IsLegalFrom (flow_at b) b.state (done ++ replicate n e) reached
  pub ready : AreDrainEvents (flow_at b) (done ++ replicate n e) (Ok b.state)
  pub over : IsOver (flow_at b) e reached
  pub rest : List TrioEvent
  pub whole : (done ++ replicate n e) ++ rest ≡ drain_events (flow_at b) b.state

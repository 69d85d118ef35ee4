-- How a run ends, whatever fails and in whatever order its threads step: the sentence that the engine is for. `IsEnded` says it, in the last lines.
use Rattle.std.specs.Prelude.{◌≡◌, List}
use Rattle.tuple_edge.specs.Input.{Input}
use Rattle.tuple_edge.specs.declared.event.Drained.{Drained}
use Rattle.tuple_edge.specs.declared.event.Drained.TheVariants as drained
use Rattle.tuple_edge.specs.declared.event.Event.{Event}
use Rattle.tuple_edge.specs.declared.node.NodeId.TheVariants as node
use Rattle.tuple_edge.specs.declared.row.Row.{Row}
use Rattle.plan_reader.specs.PlanView.{PlanView}
use Rattle.pair_machine.specs.CountLaws.{output_first}
use Rattle.pair_machine.specs.Counts.{flow_of}
use Rattle.pair_machine.specs.Drain.{IsEgressDone, IsFirstLost, pairs_up_to, partition}
use Rattle.pair_machine.specs.Legal.{IsLegal, IsOwedThroughout}
use Rattle.pair_machine.specs.Machine.{State, egress_in}
use Rattle.pair_machine.specs.Numbers.{Partition}
use Rattle.pair_machine.specs.Output.{output}
use Rattle.pair_machine.specs.Scripts.{AreWithin, IsSafe}
use Rattle.pair_machine.specs.declared.order.Order.{Order}
use Rattle.ingress_egress.specs.EgressView.{IsFrontOf}

-- what contracts see of a run that has ended: the rows that it emitted, the events of all nodes in one order, and how it ended
pub record EndedView : Type 0 where
  pub rows : List Row
  pub events : List Event
  pub drained : Drained

-- the rows that egress has emitted in a state: those of the items that it has merged
abbrev pub rows_at : PlanView → List Input → State → List Row
rows_at plan inputs s = output_first plan inputs (egress_in (s.nodes node.Egress)).count

module _ (plan : PlanView) (inputs : List Input) (script : List Order) where
  -- These events are a run that reaches this state. From the opening on each is a step of the machine without a refusal; no replica fails, stops or is
  -- asked back but as the script orders; and in every state along them the buffers hold what takeover owes.
  pub record IsRun (events : List Event) (reached : State) : Type 0 where
    pub legal : IsLegal (flow_of plan inputs) events reached
    pub within : AreWithin (flow_of plan inputs) script events
    pub owed : IsOwedThroughout (flow_of plan inputs) events

  -- The run is whole: it reaches a state in which egress is done, the rows are those emitted there, and they are all of the plan's output, each once and
  -- in order.
  pub record IsWhole (events : List Event) (rows : List Row) : Type 0 where
    pub reached : State
    pub run : IsRun events reached
    pub done : IsEgressDone (flow_of plan inputs) reached
    pub rows_are : rows ≡ rows_at plan inputs reached
    pub output : rows ≡ output plan inputs

  -- A pair is lost: the run reaches a state in which egress isn't done, and this is the first pair, stage by stage, of which no counted replica runs. The
  -- rows are those emitted there, a front of the plan's output. Under a safe script that never happens.
  pub record IsLostAt (events : List Event) (rows : List Row) (pair : Partition) : Type 0 where
    pub reached : State
    pub run : IsRun events reached
    pub unfinished : IsEgressDone (flow_of plan inputs) reached → ⊥
    pub first : IsFirstLost reached (pairs_up_to (flow_of plan inputs) (flow_of plan inputs).stages) pair
    pub rows_are : rows ≡ rows_at plan inputs reached
    pub front : IsFrontOf rows (output plan inputs)
    pub unsafe : IsSafe script → ⊥

  -- these events and rows are how a run ends that is whole, or that lost this pair
  abbrev pub EndsSo : List Event → List Row → Drained → Type 0
  EndsSo events rows drained.Whole = IsWhole events rows
  EndsSo events rows (drained.Lost stage part) = IsLostAt events rows (partition stage part)

  -- A run of the plan over these inputs under the script has ended: it is whole, or the first lost pair is named.
  abbrev pub IsEnded : EndedView → Type 0
  IsEnded ended = EndsSo ended.events ended.rows ended.drained

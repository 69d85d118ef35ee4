-- One step of a partition: what merging the next item makes of its consumer, its operator and its producer, and what these stand for.
use Rattle.std.specs.Prelude.{◌≡◌, ◌<◌, ◌≤◌, ◌-◌, ◌++◌, ◌∷◌, List, [], Option, Some, length, slice_get}
use Rattle.tuple_edge.specs.Input.{Input}
use Rattle.tuple_edge.specs.Item.{stamp_of}
use Rattle.tuple_edge.specs.declared.item.Item.{Item}
use Rattle.tuple_edge.specs.declared.row.Row.{Row}
use Rattle.merge_order.specs.MergeView.{after_next}
use Rattle.flux_consumer.specs.ConsumerView.{ConsumerView, with_merge}
use Rattle.flux_producer.specs.ProducerView.{ProducerView}
use Rattle.stream_ops.specs.Answers.{IsOpen, answer}
use Rattle.stream_ops.specs.State.{StandsFor, StateView}
use Rattle.plan_reader.specs.Nodes.{parts_of}
use Rattle.plan_reader.specs.PlanView.{PlanView}
use Rattle.plan_reader.specs.declared.stage.Stage.{Stage}
use Rattle.pair_machine.specs.Counts.{entries_after, items_on, made_on}
use Rattle.pair_machine.specs.Edges.{edge_to, passed, stamped}
use Rattle.pair_machine.specs.Flow.{Flow}
use Rattle.pair_machine.specs.Numbers.{Consumer, Partition, Producer, out_edge}
use Rattle.node_edges.specs.InEdges.{ConsumerStands}
use Rattle.node_edges.specs.OutEdges.{HasMade, ProducerStands}
use Rattle.partition_step.specs.declared.task.PartitionTask.{PartitionTask}

-- what a partition that runs has: both sides of its edges, and its operator
pub record Parts : Type 0 where
  pub consumer : ConsumerView
  pub state : StateView
  pub producer : ProducerView

-- It merges the next item: the operator's answer goes on the edges that routing names, with the item's stamp, and then a mark or the end
-- on every edge.
pub record Merges (next : Option Stage) (i : Item) (earlier later : Parts) : Type 0 where
  pub consumer : later.consumer ≡ with_merge earlier.consumer (after_next earlier.consumer.merge)
  pub rows : List Row
  pub made : HasMade (λ t. edge_to next t (stamped (stamp_of i) rows ++ passed i)) earlier.producer later.producer
  pub answers : (before : List Item) → IsOpen before → StandsFor earlier.state before → rows ≡ answer earlier.state.spec before i
  pub stands : (before : List Item) → IsOpen before → StandsFor earlier.state before → StandsFor later.state (before ++ i ∷ [])
  pub spec : later.state.spec ≡ earlier.state.spec
  pub old : later.state.old ≡ earlier.state.old

-- the plan has this partition, and it does this with its items
pub record IsPartition (plan : PlanView) (p : Partition) (task : PartitionTask) : Type 0 where
  pub first : 1 ≤ p.stage
  pub last : p.stage ≤ length plan.stages
  pub part : p.part < parts_of plan p.stage
  pub own : Stage
  pub own_is : slice_get plan.stages (p.stage - 1) ≡ Some own
  pub op : own.op ≡ task.op
  pub next : slice_get plan.stages p.stage ≡ task.next

-- the parts stand for the numbers of a consumer and a producer: the operator kept what it keeps of the items that were merged first
pub record PartsStand (f : Flow) (plan : PlanView) (inputs : List Input) (p : Partition) (x : Consumer) (y : Producer) (parts : Parts) : Type 0 where
  pub consumer : ConsumerStands plan inputs p x parts.consumer
  pub producer : ProducerStands f (items_on plan inputs) p (λ t. made_on plan inputs (out_edge p t) x.count) y parts.producer
  pub entries : parts.state.entries ≡ entries_after plan inputs p x.count

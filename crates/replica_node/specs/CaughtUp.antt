-- What a newcomer that has caught up stands for, in the machine's numbers.
use Rattle.std.specs.Prelude.{◌≡◌, ◌<◌, ℕ, List, [], None, Some, length, map, slice_index_or}
use Rattle.std.specs.List.{All}
use Rattle.tuple_edge.specs.declared.item.Item.{Item}
use Rattle.tuple_edge.specs.Input.{Input}
use Rattle.merge_order.specs.Edges.{item_at}
use Rattle.merge_order.specs.MergeView.{MergeView}
use Rattle.flux_consumer.specs.ConsumerView.{over}
use Rattle.flux_producer.specs.ProducerView.{ProducerView}
use Rattle.op_spec.specs.declared.spec.OpSpec.{OpSpec}
use Rattle.stream_ops.specs.Entries.{entries}
use Rattle.plan_reader.specs.Nodes.{sources_of}
use Rattle.plan_reader.specs.PlanView.{PlanView}
use Rattle.pair_machine.specs.CountLaws.{IsMerging}
use Rattle.pair_machine.specs.Counts.{entries_after, flow_of, items_on, made_on}
use Rattle.pair_machine.specs.Numbers.{MoveNumbers, Partition, Producer, in_edge, out_edge}
use Rattle.pair_machine.specs.Producers.{copies}
use Rattle.pair_machine.specs.Replicas.{caught_up, run_up}
use Rattle.node_edges.specs.InEdges.{ConsumerStands}
use Rattle.node_edges.specs.OutEdges.{ProducerStands}
use Rattle.catch_up.specs.Caught.{IsCaughtUp}
use Rattle.catch_up.specs.Fold.{IsRising, IsRunFrom}
use Rattle.catch_up.specs.NewcomerView.{NewcomerView}
use Rattle.catch_up.specs.declared.newcomer.CaughtUp.{CaughtUp}
use Rattle.replica_node.specs.Moves.{HoldNumbers}

-- The machine's run of rising numbers is the run of what is held: every number above the mark up to its end is held, and the next is not.
abbrev pub RunsAreFolded : Type 0
RunsAreFolded = (held : List (ℕ × Item)) (mark : ℕ) → IsRising held → IsRunFrom held mark (run_up (length held) mark (map (λ e. e.0) held))

-- this is the item that an edge has under this number
abbrev pub IsItemOf : List Item → ℕ × Item → Type 0
IsItemOf edge e = item_at edge e.0 ≡ Some e.1

-- what is held of each in-edge are items of that edge, under the numbers that the machine says
pub record HoldsNumbers (plan : PlanView) (inputs : List Input) (p : Partition) (held : List (List (ℕ × Item))) (numbers : ℕ → List ℕ) : Type 0 where
  pub sources : length held ≡ sources_of plan p.stage
  pub items : (q : ℕ) → q < length held → All (IsItemOf (items_on plan inputs (in_edge p q))) (slice_index_or held q [])
  pub under : (q : ℕ) → q < length held → map (λ e. e.0) (slice_index_or held q []) ≡ numbers q

-- A merge, a producer and an operator are those of a move's numbers, as its partner had them when the move began.
pub record ArePieces (plan : PlanView) (inputs : List Input) (p : Partition) (n : MoveNumbers) (spec : OpSpec) (merge : MergeView) (producer : ProducerView) (items : List Item) : Type 0 where
  pub consumer : ConsumerStands plan inputs p (record { marks = n.marks; told = λ q. 0; count = n.count }) (over merge)
  pub sender : Producer
  pub sends : ProducerStands (flow_of plan inputs) (items_on plan inputs) p (λ t. made_on plan inputs (out_edge p t) n.count) sender producer
  pub lows : (t : ℕ) → sender.lows t ≡ n.lows t
  pub entries : entries spec items ≡ entries_after plan inputs p n.count

-- The pieces of a move hold what its numbers say, so that the list of the move is that of its numbers.
abbrev pub PiecesHoldNumbers : Type 0
PiecesHoldNumbers = (plan : PlanView) (inputs : List Input) (p : Partition) (n : MoveNumbers) (spec : OpSpec) (merge : MergeView) (producer : ProducerView) (items : List Item)
    → IsMerging (flow_of plan inputs) p → ArePieces plan inputs p n spec merge producer items → HoldNumbers plan inputs p n merge producer

-- a replica that has caught up has what the machine's one has
pub record StandsCaughtUp (plan : PlanView) (inputs : List Input) (p : Partition) (inc : ℕ) (n : MoveNumbers) (numbers : ℕ → List ℕ) (c : CaughtUp) : Type 0 where
  pub consumer : ConsumerStands plan inputs p (caught_up inc n numbers).consumer c.consumer
  pub producer : ProducerStands (flow_of plan inputs) (items_on plan inputs) p (λ t. made_on plan inputs (out_edge p t) n.count) (caught_up inc n numbers).producer c.producer
  pub entries : c.state.entries ≡ entries_after plan inputs p n.count
  pub unwatched : c.state.old ≡ None

-- A newcomer that took the list of a move of these numbers, and held items of its in-edges, stands at its end for the machine's replica that
-- has caught up.
abbrev pub NewcomersCatchUp : Type 0
NewcomersCatchUp = (plan : PlanView) (inputs : List Input) (p : Partition) (inc : ℕ) (n : MoveNumbers) (numbers : ℕ → List ℕ)
    (newcomer : NewcomerView) (spec : OpSpec) (c : CaughtUp) (merge : MergeView) (producer : ProducerView) (items : List Item)
    → IsMerging (flow_of plan inputs) p → ArePieces plan inputs p n spec merge producer items → HoldsNumbers plan inputs p newcomer.held numbers
    → IsCaughtUp newcomer spec p.stage p.part (copies (flow_of plan inputs) p) c merge producer items
    → StandsCaughtUp plan inputs p inc n numbers c

-- A consumer and a producer that hold what the numbers of a move say.
use Rattle.std.specs.Prelude.{◌≡◌, ◌<◌, ◌+◌, ℕ, List, length}
use Rattle.tuple_edge.specs.Input.{Input}
use Rattle.merge_order.specs.MergeView.{MergeView, mark_of, waiting_of}
use Rattle.flux_producer.specs.ProducerView.{ProducerView, buffer_at}
use Rattle.plan_reader.specs.Nodes.{parts_of, sources_of}
use Rattle.plan_reader.specs.PlanView.{PlanView}
use Rattle.pair_machine.specs.Contents as contents
use Rattle.pair_machine.specs.Counts.{entries_after, made_on}
use Rattle.pair_machine.specs.Counts as counts
use Rattle.pair_machine.specs.Numbers.{MoveNumbers, Partition, out_edge}
use Rattle.move_list.specs.MoveList.{move_list, used_of}

-- The merge and the buffers are those of the numbers: marks, count and lows; what waits are the items numbered above what was merged up to the
-- mark, and what is kept those above low up to what was made.
pub record HoldNumbers (plan : PlanView) (inputs : List Input) (p : Partition) (n : MoveNumbers) (m : MergeView) (producer : ProducerView) : Type 0 where
  pub sources : length m.marks ≡ sources_of plan p.stage
  pub marks : (q : ℕ) → q < length m.marks → mark_of m q ≡ n.marks q
  pub count : m.count ≡ n.count
  pub used : (q : ℕ) → q < length m.marks → used_of m q ≡ counts.used_of plan inputs p q n.count
  pub waits : (q : ℕ) → q < length m.marks → waiting_of m q ≡ contents.waiting plan inputs p n.count q (n.marks q)
  pub targets : length producer.edges ≡ parts_of plan (p.stage + 1)
  pub lows : (t : ℕ) → t < length producer.edges → (buffer_at producer t).low ≡ n.lows t
  pub made : (t : ℕ) → t < length producer.edges → (buffer_at producer t).produced ≡ made_on plan inputs (out_edge p t) n.count
  pub kept : (t : ℕ) → t < length producer.edges → (buffer_at producer t).items ≡ contents.kept plan inputs p n.count t (n.lows t)

-- the list of a move is that of its numbers
abbrev pub MovesTellTheirNumbers : Type 0
MovesTellTheirNumbers = (plan : PlanView) (inputs : List Input) (p : Partition) (n : MoveNumbers) (m : MergeView) (producer : ProducerView)
    → HoldNumbers plan inputs p n m producer → move_list m producer (entries_after plan inputs p n.count) ≡ contents.move_list plan inputs p n

-- Each call of a consumer in code is what the machine's consumer does.
use Rattle.std.specs.Prelude.{◌≡◌, ◌<◌, ◌+◌, ℕ, List, Some, length, slice_get, is_some}
use Rattle.tuple_edge.specs.declared.item.Item.{Item}
use Rattle.tuple_edge.specs.Input.{Input}
use Rattle.merge_order.specs.Edges.{item_at}
use Rattle.merge_order.specs.Merged.{items}
use Rattle.merge_order.specs.MergeView.{MergeView, after_next, after_offer, all_wait, item_of, least, mark_of, opening, waiting_of}
use Rattle.merge_order.specs.StandsFor.{StandsFor}
use Rattle.flux_consumer.specs.ConsumerView.{ConsumerView, over, report_of, with_merge}
use Rattle.flux_consumer.specs.ConsumerView as code
use Rattle.plan_reader.specs.Nodes.{sources_of}
use Rattle.plan_reader.specs.PlanView.{IsPlan, PlanView}
use Rattle.pair_machine.specs.Consumers.{is_ready, merged_one, offered, pulled, telling, untold}
use Rattle.pair_machine.specs.Contents.{waiting}
use Rattle.pair_machine.specs.CountLaws.{IsMerging}
use Rattle.pair_machine.specs.Counts.{flow_of, items_on}
use Rattle.pair_machine.specs.Edges.{edges_into, merged_at}
use Rattle.pair_machine.specs.Ingress.{last_stamp}
use Rattle.pair_machine.specs.Machine.{new_consumer}
use Rattle.pair_machine.specs.Numbers.{Consumer, Partition, in_edge}
use Rattle.node_edges.specs.InEdges.{ConsumerStands, edge_in}

-- a report in code is that of the machine: of the first edge of which there is anything to tell, with its mark
pub record TellsSo (plan : PlanView) (inputs : List Input) (p : Partition) (x : Consumer) (y : ConsumerView) (edge upto : ℕ) : Type 0 where
  pub first : untold (flow_of plan inputs) p x ≡ Some edge
  pub source : edge < sources_of plan p.stage
  pub mark : upto ≡ x.marks edge
  pub told : ConsumerStands plan inputs p (telling x edge) (code.telling y edge)

module _ (plan : PlanView) (inputs : List Input) (p : Partition) where
  -- a consumer that has taken nothing stands for the opening one
  abbrev pub Begins : Type 0
  Begins = IsPlan plan → IsMerging (flow_of plan inputs) p → ConsumerStands plan inputs p new_consumer (over (opening (sources_of plan p.stage)))

  -- a consumer that starts over a merge stands for the merge's count, and for marks of which nothing was told
  abbrev pub Starts : Type 0
  Starts = (marks : ℕ → ℕ) (merge : MergeView) → length merge.marks ≡ sources_of plan p.stage → StandsFor (last_stamp inputs) (edges_into plan inputs p.stage p.part) merge
      → ((q : ℕ) → q < sources_of plan p.stage → mark_of merge q ≡ marks q)
      → ConsumerStands plan inputs p (record { marks = marks; told = λ q. 0; count = merge.count }) (over merge)

  module _ (x : Consumer) (y : ConsumerView) where
    -- what waits on an in-edge is what the numbers say
    abbrev pub Waits : Type 0
    Waits = (q : ℕ) → IsMerging (flow_of plan inputs) p → q < sources_of plan p.stage → ConsumerStands plan inputs p x y
        → waiting_of y.merge q ≡ waiting plan inputs p x.count q (x.marks q)

    -- an item of an edge is offered, which has it if its number is the next
    abbrev pub Offers : Type 0
    Offers = (q n : ℕ) (i : Item) → IsMerging (flow_of plan inputs) p → q < sources_of plan p.stage
        → (n ≡ x.marks q + 1 → item_at (items_on plan inputs (in_edge p q)) n ≡ Some i)
        → ConsumerStands plan inputs p x y → ConsumerStands plan inputs p (offered x q n) (with_merge y (after_offer y.merge q n i))

    -- the next item of an edge is taken
    abbrev pub PullsOne : Type 0
    PullsOne = (q : ℕ) (i : Item) → IsMerging (flow_of plan inputs) p → q < sources_of plan p.stage
        → item_at (items_on plan inputs (in_edge p q)) (x.marks q + 1) ≡ Some i
        → ConsumerStands plan inputs p x y → ConsumerStands plan inputs p (pulled x q) (with_merge y (after_offer y.merge q (mark_of y.merge q + 1) i))

    -- it is ready where the machine says so
    abbrev pub IsReadySo : Type 0
    IsReadySo = ConsumerStands plan inputs p x y → all_wait y.merge.waiting ≡ is_ready (flow_of plan inputs) p x

    -- and then it has a next item
    abbrev pub Gives : Type 0
    Gives = IsPlan plan → IsMerging (flow_of plan inputs) p → ConsumerStands plan inputs p x y → is_some (item_of (least y.merge.waiting)) ≡ is_ready (flow_of plan inputs) p x

    -- where it is ready the next item is that of the merged list
    abbrev pub Merges : Type 0
    Merges = (i : Item) → IsPlan plan → IsMerging (flow_of plan inputs) p → item_of (least y.merge.waiting) ≡ Some i → ConsumerStands plan inputs p x y
        → (slice_get (items (merged_at plan inputs p.stage p.part)) x.count ≡ Some i) × ConsumerStands plan inputs p (merged_one x) (with_merge y (after_next y.merge))

    -- nothing is to be reported where the machine has nothing to tell
    abbrev pub ReportsSo : Type 0
    ReportsSo = ConsumerStands plan inputs p x y → edge_in (report_of y) ≡ untold (flow_of plan inputs) p x

    -- a report is that of the machine, and telling it is the machine's
    abbrev pub Tells : Type 0
    Tells = (report : ℕ × ℕ) → report_of y ≡ Some report → ConsumerStands plan inputs p x y → TellsSo plan inputs p x y report.0 report.1

-- all of these, of each partition of a plan
pub record ConsumerFollows (plan : PlanView) (inputs : List Input) (p : Partition) : Type 0 where
  pub begins : Begins plan inputs p
  pub starts : Starts plan inputs p
  pub waits : (x : Consumer) (y : ConsumerView) → Waits plan inputs p x y
  pub offers : (x : Consumer) (y : ConsumerView) → Offers plan inputs p x y
  pub pulls : (x : Consumer) (y : ConsumerView) → PullsOne plan inputs p x y
  pub ready : (x : Consumer) (y : ConsumerView) → IsReadySo plan inputs p x y
  pub gives : (x : Consumer) (y : ConsumerView) → Gives plan inputs p x y
  pub merges : (x : Consumer) (y : ConsumerView) → Merges plan inputs p x y
  pub reports : (x : Consumer) (y : ConsumerView) → ReportsSo plan inputs p x y
  pub tells : (x : Consumer) (y : ConsumerView) → Tells plan inputs p x y

-- each call of a consumer in code is the machine's, of every partition of every plan
abbrev pub ConsumersFollow : Type 0
ConsumersFollow = (plan : PlanView) (inputs : List Input) (p : Partition) → ConsumerFollows plan inputs p

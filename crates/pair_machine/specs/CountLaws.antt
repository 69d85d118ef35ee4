-- What holds of the counts of every plan, whatever the inputs. The edges into a partition are used up just where its merged list ends;
-- what a partition has made of an edge is the edge's front, and at the end the whole edge; a merge that has taken all goes on until it has
-- merged all; a move's list has the size that the numbers say; and the output's rows come in their order.
use Rattle.std.specs.Prelude.{[], ◌∷◌, ◌++◌, Option, None, Some, ◌≡◌, ◌≤◌, ◌<◌, ◌+◌, ◌-◌, ℕ, true, false, List, filter, length, nat_le, slice_get, take}
use Rattle.tuple_edge.specs.declared.item.Item.{Item}
use Rattle.tuple_edge.specs.declared.item.Item.TheVariants as item
use Rattle.tuple_edge.specs.declared.row.Row.{Row}
use Rattle.tuple_edge.specs.Input.{Input}
use Rattle.tuple_edge.specs.Item.{stamp_of}
use Rattle.merge_order.specs.Merged.{items, items_from}
use Rattle.stream_ops.specs.Answers.{answer, rows_of}
use Rattle.plan_reader.specs.PlanView.{IsPlan, PlanView}
use Rattle.plan_reader.specs.declared.stage.Stage.{Stage}
use Rattle.pair_machine.specs.Boundary.{egress_partition}
use Rattle.pair_machine.specs.Consumers.{is_ready}
use Rattle.pair_machine.specs.Contents.{move_list}
use Rattle.pair_machine.specs.Counts.{flow_of, items_on, merged_first, sent_after}
use Rattle.pair_machine.specs.Edges.{edge_to, merged_at, passed, stamped}
use Rattle.pair_machine.specs.Ingress.{mark_after, row_of_source}
use Rattle.pair_machine.specs.Flow.{Flow, IsFlow}
use Rattle.pair_machine.specs.Lengths.{MoveBound}
use Rattle.pair_machine.specs.Numbers.{Consumer, MoveNumbers, Partition, in_edge, ingress_edge, out_edge}
use Rattle.pair_machine.specs.Output.{output}
use Rattle.pair_machine.specs.Replicas.{size}

-- ---- the numbers of a plan

-- the numbers of every plan are those of a flow
abbrev pub PlansAreFlows : Type 0
PlansAreFlows = (plan : PlanView) (inputs : List Input) → IsPlan plan → IsFlow (flow_of plan inputs)

-- a partition that merges: one of a stage, or egress
pub record IsMerging (f : Flow) (p : Partition) : Type 0 where
  pub first : 1 ≤ p.stage
  pub last : p.stage ≤ f.stages + 1

-- a partition of one of the stages
pub record IsOfStage (f : Flow) (p : Partition) : Type 0 where
  pub first : 1 ≤ p.stage
  pub last : p.stage ≤ f.stages
  pub part : p.part < f.sources (p.stage + 1)

-- ---- what is used

-- What is used never falls. As long as the merged list of a partition goes on, each edge into it has an item that is not used; where the
-- list ends, all are used.
pub record AreUsedUp (f : Flow) : Type 0 where
  pub rising : (p : Partition) (q fewer more : ℕ) → fewer ≤ more → f.used p q fewer ≤ f.used p q more
  pub below : (p : Partition) (q count : ℕ) → IsMerging f p → q < f.sources p.stage → count < f.total p → f.used p q count < f.length (in_edge p q)
  pub whole : (p : Partition) (q : ℕ) → IsMerging f p → q < f.sources p.stage → f.used p q (f.total p) ≡ f.length (in_edge p q)

-- so it is of every plan within its limits, whatever the inputs
abbrev pub EdgesAreUsedUp : Type 0
EdgesAreUsedUp = (plan : PlanView) (inputs : List Input) → IsPlan plan → AreUsedUp (flow_of plan inputs)

-- Of each edge into a partition the items among those that it merges first are the edge's first items, in their order, each once: just those that
-- are used.
abbrev pub EdgesAreMergedInOrder : Type 0
EdgesAreMergedInOrder = (plan : PlanView) (inputs : List Input) → IsPlan plan → (p : Partition) (q count : ℕ) → IsMerging (flow_of plan inputs) p → q < (flow_of plan inputs).sources p.stage
    → items_from q (take count (merged_at plan inputs p.stage p.part)) ≡ take ((flow_of plan inputs).used p q count) (items_on plan inputs (in_edge p q))

-- ---- what is made

-- what a partition sends on its edge to target t after the items that it merges first
abbrev pub sent_first : PlanView → List Input → Partition → ℕ → ℕ → List Item
sent_first plan inputs p t count = sent_after (slice_get plan.stages (p.stage - 1)) (slice_get plan.stages p.stage) t (merged_first plan inputs p count)

-- what a stage sends on an edge to target t for one more item, after its operator was given those before
abbrev pub sent_for : Option Stage → Option Stage → ℕ → List Item → Item → List Item
sent_for None next t before i = []
sent_for (Some stage) next t before i = edge_to next t (stamped (stamp_of i) (answer stage.op before i) ++ passed i)

-- What a partition makes of the edge to a target is nothing at first, never falls, is at most the edge, and is at the end of its merged
-- list the whole edge. The items made are those that the partition sends after the items that it merges first, and each next merged item
-- adds what is sent for it.
pub record IsMadeByPart (plan : PlanView) (inputs : List Input) (p : Partition) (t : ℕ) : Type 0 where
  pub none : (flow_of plan inputs).made (out_edge p t) 0 ≡ 0
  pub rising : (fewer more : ℕ) → fewer ≤ more → (flow_of plan inputs).made (out_edge p t) fewer ≤ (flow_of plan inputs).made (out_edge p t) more
  pub most : (count : ℕ) → (flow_of plan inputs).made (out_edge p t) count ≤ (flow_of plan inputs).length (out_edge p t)
  pub whole : (flow_of plan inputs).made (out_edge p t) ((flow_of plan inputs).total p) ≡ (flow_of plan inputs).length (out_edge p t)
  pub front : (count : ℕ) → take ((flow_of plan inputs).made (out_edge p t) count) (items_on plan inputs (out_edge p t)) ≡ sent_first plan inputs p t count
  pub next : (count : ℕ) (i : Item) → slice_get (items (merged_at plan inputs p.stage p.part)) count ≡ Some i
      → sent_first plan inputs p t (count + 1)
      ≡ sent_first plan inputs p t count ++ sent_for (slice_get plan.stages (p.stage - 1)) (slice_get plan.stages p.stage) t (merged_first plan inputs p count) i

-- the items of the edge from a source of ingress that come of the first makes: those whose stamps are up to their number
abbrev pub made_first : PlanView → List Input → (q t makes : ℕ) → List Item
made_first plan inputs q t makes = filter (λ i. nat_le (stamp_of i) makes) (items_on plan inputs (ingress_edge q t))

-- what one make gives of a source: of an input its row, where it is the source's own, and a mark where one follows it; after the inputs the end
abbrev pub made_for : (source mark stamp : ℕ) → Option Input → List Item
made_for source mark stamp None = item.End stamp ∷ []
made_for source mark stamp (Some input) = row_of_source source stamp input ++ mark_after mark stamp

-- the same of the edge from a source of ingress to a target, where makes are counted
pub record IsMadeByIngress (plan : PlanView) (inputs : List Input) (q t : ℕ) : Type 0 where
  pub none : (flow_of plan inputs).made (ingress_edge q t) 0 ≡ 0
  pub rising : (fewer more : ℕ) → fewer ≤ more → (flow_of plan inputs).made (ingress_edge q t) fewer ≤ (flow_of plan inputs).made (ingress_edge q t) more
  pub most : (makes : ℕ) → (flow_of plan inputs).made (ingress_edge q t) makes ≤ (flow_of plan inputs).length (ingress_edge q t)
  pub whole : (flow_of plan inputs).made (ingress_edge q t) (flow_of plan inputs).makes ≡ (flow_of plan inputs).length (ingress_edge q t)
  pub front : (makes : ℕ) → take ((flow_of plan inputs).made (ingress_edge q t) makes) (items_on plan inputs (ingress_edge q t)) ≡ made_first plan inputs q t makes
  pub next : (makes : ℕ) → makes < (flow_of plan inputs).makes
      → made_first plan inputs q t (makes + 1) ≡ made_first plan inputs q t makes ++ edge_to (slice_get plan.stages 0) t (made_for q plan.mark (makes + 1) (slice_get inputs makes))

-- every partition of every stage, and every source of ingress, makes its edges so
pub record IsAllMade (plan : PlanView) (inputs : List Input) : Type 0 where
  pub by_parts : (p : Partition) (t : ℕ) → IsOfStage (flow_of plan inputs) p → IsMadeByPart plan inputs p t
  pub by_ingress : (q t : ℕ) → q < plan.version → IsMadeByIngress plan inputs q t

-- so it is of every plan within its limits, whatever the inputs
abbrev pub AllIsMade : Type 0
AllIsMade = (plan : PlanView) (inputs : List Input) → IsPlan plan → IsAllMade plan inputs

-- ---- where a merge ends

-- a consumer has taken all items of all edges into it
abbrev pub HasTakenAll : Flow → Partition → Consumer → Type 0
HasTakenAll f p c = (q : ℕ) → q < f.sources p.stage → c.marks q ≡ f.length (in_edge p q)

-- A consumer that has taken all is ready until it has merged all, so where it is not ready it has.
pub record MergesToTheEnd (f : Flow) : Type 0 where
  pub ready : (p : Partition) (c : Consumer) → IsMerging f p → HasTakenAll f p c → c.count < f.total p → is_ready f p c ≡ true
  pub ended : (p : Partition) (c : Consumer) → IsMerging f p → HasTakenAll f p c → c.count ≤ f.total p → is_ready f p c ≡ false → c.count ≡ f.total p

-- so it is of every plan within its limits, whatever the inputs
abbrev pub EndedMergeIsWhole : Type 0
EndedMergeIsWhole = (plan : PlanView) (inputs : List Input) → IsPlan plan → MergesToTheEnd (flow_of plan inputs)

-- ---- the list of a move

-- the list of a move has as many entries as its numbers say
abbrev pub MovesHaveTheirSize : Type 0
MovesHaveTheirSize = (plan : PlanView) (inputs : List Input) → IsPlan plan → (p : Partition) (m : MoveNumbers) → IsOfStage (flow_of plan inputs) p → MoveBound (flow_of plan inputs) p m
    → length (move_list plan inputs p m) ≡ size (flow_of plan inputs) p m

-- ---- the output

-- the rows among the items that egress merges first
abbrev pub output_first : PlanView → List Input → ℕ → List Row
output_first plan inputs count = rows_of (merged_first plan inputs (egress_partition (flow_of plan inputs)) count)

-- The rows among the items that egress merges first are the first rows of the output, and at the end they are all of it.
pub record ComesInOrder (plan : PlanView) (inputs : List Input) : Type 0 where
  pub front : (count : ℕ) → output_first plan inputs count ≡ take (length (output_first plan inputs count)) (output plan inputs)
  pub whole : output_first plan inputs ((flow_of plan inputs).total (egress_partition (flow_of plan inputs))) ≡ output plan inputs

-- so it is of every plan, also one beyond its limits, and whatever the inputs
abbrev pub OutputComesInOrder : Type 0
OutputComesInOrder = (plan : PlanView) (inputs : List Input) → ComesInOrder plan inputs

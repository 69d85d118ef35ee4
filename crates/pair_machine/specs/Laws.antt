-- What holds of the edges of every plan, whatever the inputs.
use Rattle.std.specs.Prelude.{◌≡◌, ◌≤◌, ◌<◌, ◌+◌, ◌*◌, ℕ, suc, All, List, Some, length, slice_get, take, []}
use Rattle.tuple_edge.specs.Input.{Input, rows_in}
use Rattle.merge_order.specs.Edges.{AreEdges}
use Rattle.merge_order.specs.Merged.{has_mark_at, items, merged}
use Rattle.op_spec.specs.Limits.{max_join_rows}
use Rattle.op_spec.specs.Times.{IsTime, IsTimely}
use Rattle.plan_reader.specs.Nodes.{parts_of}
use Rattle.plan_reader.specs.PlanView.{IsPlan, PlanView}
use Rattle.plan_reader.specs.declared.stage.Stage.{Stage}
use Rattle.pair_machine.specs.Ingress.{last_stamp, sent_by_ingress, sent_by_source, sent_together}
use Rattle.pair_machine.specs.Edges.{answered, edge, edge_to, edges_into, merged_at, most_sent, sent_by}

-- the edges into each partition, and into egress, are of the form that a merge asks for
abbrev pub EdgesHaveTheForm : Type 0
EdgesHaveTheForm = (plan : PlanView) (inputs : List Input) → IsPlan plan → (s q : ℕ) → AreEdges (last_stamp inputs) (edges_into plan inputs (suc s) q)

-- there is one edge into a partition for each partition of the stage before
abbrev pub EachPartSends : Type 0
EachPartSends = (plan : PlanView) (inputs : List Input) (s q : ℕ) → s ≤ length plan.stages → length (edges_into plan inputs (suc s) q) ≡ parts_of plan s

-- an edge from a partition is what the stage's operator answers to the partition's merged list, as far as it goes to the target
abbrev pub StagesAnswer : Type 0
StagesAnswer = (plan : PlanView) (inputs : List Input) (s q t : ℕ) (stage : Stage) → slice_get plan.stages s ≡ Some stage → q < stage.parts
    → edge plan inputs (suc s) q t ≡ edge_to (slice_get plan.stages (suc s)) t (answered stage.op [] (items (merged_at plan inputs (suc s) q)))

-- every edge carries just the marks that the first source of ingress sends
abbrev pub MarksAreShared : Type 0
MarksAreShared = (plan : PlanView) (inputs : List Input) → IsPlan plan → (s q t n : ℕ) → q < length (sent_by plan inputs s)
    → has_mark_at n (edge plan inputs s q t) ≡ has_mark_at n (sent_by_source plan inputs 0)

-- what the sources of ingress send, merged, is the rows of all inputs in their order, with the marks and one end, where each input is of one of them
abbrev pub SourcesMergeInOrder : Type 0
SourcesMergeInOrder = (plan : PlanView) (inputs : List Input) → IsPlan plan → All (λ input. input.source < plan.version) inputs
    → items (merged (last_stamp inputs) (sent_by_ingress plan inputs)) ≡ sent_together plan.mark 1 (rows_in inputs)

-- An edge and a merged list have at most so many rows for each input as the stages up to it send for one, and one mark or end at most for each stamp.
-- The stages before the last one send one at most, and with the last one no more than a join keeps of a side.
pub record AreShort (plan : PlanView) (inputs : List Input) : Type 0 where
  pub edges : (s q t : ℕ) → length (edge plan inputs s q t) ≤ most_sent (take s plan.stages) * length inputs + length inputs + 1
  pub merged : (s q : ℕ) → length (merged_at plan inputs (suc s) q) ≤ most_sent (take s plan.stages) * length inputs + length inputs + 1
  pub inner : (s : ℕ) → s < length plan.stages → most_sent (take s plan.stages) ≡ 1
  pub most : (s : ℕ) → most_sent (take s plan.stages) ≤ max_join_rows

-- so it is of every plan within its limits, whatever the inputs
abbrev pub EdgesAreShort : Type 0
EdgesAreShort = (plan : PlanView) (inputs : List Input) → IsPlan plan → AreShort plan inputs

-- where the times of the inputs are within their limits, so are those of all rows on edges and in merged lists
pub record AreTimely (plan : PlanView) (inputs : List Input) : Type 0 where
  pub edges : (s q t : ℕ) → All IsTimely (edge plan inputs s q t)
  pub merged : (s q : ℕ) → All IsTimely (items (merged_at plan inputs (suc s) q))

-- so it is of every plan within its limits; of the inputs only their times are asked to be within theirs
abbrev pub TimesStay : Type 0
TimesStay = (plan : PlanView) (inputs : List Input) → IsPlan plan → All (λ input. IsTime input.row.time) inputs → AreTimely plan inputs

-- The rows that a plan gives.
use Rattle.std.specs.Prelude.{suc, List, length}
use Rattle.tuple_edge.specs.declared.row.Row.{Row}
use Rattle.tuple_edge.specs.Input.{Input}
use Rattle.merge_order.specs.Merged.{items}
use Rattle.stream_ops.specs.Answers.{rows_of}
use Rattle.plan_reader.specs.PlanView.{PlanView}
use Rattle.pair_machine.specs.Edges.{merged_at}

-- the rows that a plan gives for inputs: those of the merged list into egress, which comes after the last stage
abbrev pub output : PlanView → List Input → List Row
output plan inputs = rows_of (items (merged_at plan inputs (suc (length plan.stages)) 0))

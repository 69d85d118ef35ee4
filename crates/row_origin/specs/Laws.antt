-- What holds of the rows that stages pass on, and of their causes.
use Rattle.std.specs.Prelude.{◌≡◌, Bool, true, false, List, [], map}
use Rattle.tuple_edge.specs.declared.row.Row.{Row}
use Rattle.plan_reader.specs.PlanView.{IsPlan, IsStage, PlanView}
use Rattle.plan_reader.specs.declared.stage.Stage.{Stage}
use Rattle.op_spec.specs.declared.spec.OpSpec.{OpSpec}
use Rattle.op_spec.specs.declared.spec.OpSpec.TheVariants as op
use Rattle.stream_ops.specs.Sums.{amounts, sums_of}
use Rattle.stream_ops.specs.declared.sums.Sums.{Sums}
use Rattle.row_cause.specs.Causes.{Cause, alone, counted, rows_in}
use Rattle.row_cause.specs.Laws.{one_by_one}
use Rattle.pair_machine.specs.Output.{output}
use Rattle.trade_text.specs.TradesView.{IsTrades, TradesView, inputs_in}
use Rattle.row_origin.specs.Origins.{rows_after}
use Rattle.row_origin.specs.Stages.{passed_on, stage_causes}

-- The rows that a stage passes on, of early and late ones, are, one by one, the answers over the rows of their causes alone.
abbrev pub PassedRowsRestOnCauses : Type 0
PassedRowsRestOnCauses = (stage : Stage) (early late : List Row) → IsStage stage → one_by_one (passed_on stage early late) ≡ map (alone stage.op) (stage_causes stage early late)

-- The rows that the last stage of a plan passes on, where the trades' rows come to the first one, are those that the plan gives.
abbrev pub RowsAreTheOutput : Type 0
RowsAreTheOutput = (plan : PlanView) (trades : TradesView) → IsPlan plan → IsTrades trades → (trades.merged ≡ true → plan.version ≡ 2)
    → rows_after plan.stages trades.rows [] ≡ output plan (inputs_in trades)

-- whether the rows of an operator tell sums of the rows of a key
abbrev pub sums_up : OpSpec → Bool
sums_up (op.Keep column compare limit) = false
sums_up (op.Total by) = true
sums_up (op.Last by n) = true
sums_up (op.Window by width) = true
sums_up (op.Crossing by limit) = true
sums_up (op.Join by width n column compare limit) = false

-- the sums of the rows that count into an answer
abbrev pub told_by : OpSpec → Cause → Sums
told_by op c = sums_of (rows_in (counted op c))

-- The quantity and value of each row that such a stage passes on are the sums of the rows that count into it, in their order.
abbrev pub PassedRowsTellWhatCounts : Type 0
PassedRowsTellWhatCounts = (stage : Stage) (early late : List Row) → IsStage stage → sums_up stage.op ≡ true
    → map amounts (passed_on stage early late) ≡ map (told_by stage.op) (stage_causes stage early late)

-- The text of `move`.
use Rattle.std.specs.Prelude.{ℕ, List, [], ◌++◌, codes, length, flat_map}
use Rattle.std.specs.Fmt.{decimal}
use Rattle.std.specs.List.{range_with_len}
use Rattle.tuple_edge.specs.declared.row.Row.{Row}
use Rattle.plan_reader.specs.PlanView.{PlanView}
use Rattle.plan_reader.specs.declared.stage.Stage.{Stage}
use Rattle.pair_machine.specs.Output.{output}
use Rattle.trade_text.specs.Inputs.{inputs_of}
use Rattle.trade_text.specs.Text.{text}
use Rattle.trade_text.specs.TradesView.{TradesView}
use Rattle.bucket_move.specs.BucketsView.{keys_at, opening_table}
use Rattle.bucket_move.specs.declared.moves.Shift.{Shift}
use Rattle.move_command.specs.Moved.{made, moved}

-- the line of a partition at which so many keys stand
abbrev pub part_line : ℕ → ℕ → List ℕ
part_line part keys = codes "part " ++ decimal part ++ codes " keys=" ++ decimal keys ++ codes "\n"

-- the line of each partition of a stage: how many keys rows have whose bucket a table has there
abbrev pub part_lines : List ℕ → List Row → Stage → List ℕ
part_lines table rows stage = flat_map (λ part. part_line part (keys_at stage table part rows)) (range_with_len 0 stage.parts)

-- where each bucket of a stage stands at the end of so many rows
abbrev pub table_at_end : Stage → ℕ → List Shift → List ℕ
table_at_end stage rows shifts = moved (opening_table stage.parts) (made rows shifts)

-- What is written: the text of the plan's output, as without moves, and how many keys stand at each partition at the end. A plan that is by key has one stage.
abbrev pub move_text : PlanView → TradesView → List Shift → List ℕ
move_text plan trades shifts =
    text trades.symbols (output plan (inputs_of plan.version trades.rows []))
    ++ flat_map (λ stage. part_lines (table_at_end stage (length trades.rows) shifts) trades.rows stage) plan.stages

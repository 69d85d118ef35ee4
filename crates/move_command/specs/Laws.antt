-- What holds of every plan that is by key.
use Rattle.std.specs.Prelude.{◌≡◌, true, List, [], ◌∷◌}
use Rattle.tuple_edge.specs.declared.row.Row.{Row}
use Rattle.stream_ops.specs.Answers.{answers}
use Rattle.plan_reader.specs.PlanView.{IsPlan, PlanView}
use Rattle.plan_reader.specs.declared.stage.Stage.{Stage}
use Rattle.pair_machine.specs.Output.{output}
use Rattle.trade_text.specs.Inputs.{inputs_of}
use Rattle.bucket_move.specs.ByKey.{is_by_key}
use Rattle.bucket_move.specs.Rows.{items_of}

-- The output of a plan that is by key is what one operator answers to all rows, one after another: in whichever partition a row is answered, the rows
-- of its key are there.
abbrev pub OneOperatorAnswers : Type 0
OneOperatorAnswers = (plan : PlanView) (stage : Stage) (rows : List Row) → IsPlan plan → is_by_key plan ≡ true → plan.stages ≡ stage ∷ []
    → output plan (inputs_of plan.version rows []) ≡ answers stage.op [] (items_of rows)

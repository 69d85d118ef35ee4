use Rattle.std.proofs.Common.{◌≡◌, ◌++◌, List}
use Rattle.std.specs.Prelude.{flat_map}
use Rattle.std.specs.List.{range_with_len}
use Rattle.plan_reader.specs.declared.stage.Stage.{Stage}
use Rattle.bucket_move.specs.BucketsView.{Call, IsAfter, fed, keys_at, opening_table, table_after}
use Rattle.move_command.specs.Text.{part_line}
use Rattle.move_command.proofs.text.push_keys.Given as goal

abbrev pub invariant-loop-part : goal.invariant-loop-part
invariant-loop-part l = (stage : Stage) (calls : List Call) → IsAfter stage calls l.buckets
    → l.text.items ≡ l.initial.text.items ++ flat_map (λ part. part_line part (keys_at stage (table_after (opening_table stage.parts) calls) part (fed calls))) (range_with_len 0 l.part)

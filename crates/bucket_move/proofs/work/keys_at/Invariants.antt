use Rattle.std.proofs.Common.{ℕ, ◌≡◌, ◌<◌, ◌-◌, ◌^◌, List, length, min, true}
use Rattle.tuple_edge.specs.declared.row.Row.{Row}
use Rattle.op_spec.specs.declared.spec.OpSpec.{OpSpec}
use Rattle.plan_reader.specs.declared.stage.Stage.{Stage}
use Rattle.bucket_move.specs.BucketsView.{AllKeep, AllStand, keys_of_first}
use Rattle.bucket_move.specs.ByKey.{is_keyed}
use Rattle.bucket_move.specs.Working.{kept_in}
use Rattle.bucket_move.proofs.KeysBelow.{keys_below}
use Rattle.bucket_move.proofs.work.keys_at.Given as goal

abbrev pub invariant-loop-bucket : goal.invariant-loop-bucket
invariant-loop-bucket l = record {
  stands : (stage : Stage) (rows : List Row) → is_keyed stage.by stage.op ≡ true → length rows < 2 ^ 64 → AllStand stage l.table (kept_in l.parts) rows
      → l.keys ≡ keys_below stage l.table l.part l.bucket rows;
  kept : (spec : OpSpec) (rows : ℕ → List Row) → AllKeep spec l.table (kept_in l.parts) rows → l.keys ≡ min (keys_of_first spec l.table l.part rows l.bucket) (2 ^ 64 - 1);
}

-- Moves that a stage has the bucket and the partition for.
use Rattle.std.specs.Prelude.{◌<◌}
use Rattle.plan_reader.specs.declared.stage.Stage.{Stage}
use Rattle.bucket_move.specs.Limits.{buckets}
use Rattle.bucket_move.specs.declared.moves.Shift.{Shift}

-- there is such a bucket, and the stage has such a partition to which it moves
pub record IsMoveOf (stage : Stage) (s : Shift) : Type 0 where
  pub bucket : s.bucket < buckets
  pub to : s.to < stage.parts

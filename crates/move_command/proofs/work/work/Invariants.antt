use Rattle.std.proofs.Common.{◌≡◌, ◌+◌, false, [], drop, length}
use Rattle.std.specs.Prelude.{All}
use Rattle.plan_reader.specs.declared.stage.Stage.{Stage}
use Rattle.op_spec.specs.Times.{IsTime}
use Rattle.bucket_move.specs.BucketsView.{IsAfter}
use Rattle.bucket_move.specs.Shifts.{DontFall}
use Rattle.move_command.specs.Moved.{calls_of, made}
use Rattle.move_command.proofs.Working.{Reaches}
use Rattle.move_command.proofs.work.work.Given as goal

abbrev pub invariant-loop-shift : goal.invariant-loop-shift
invariant-loop-shift g l = record {
  whole : l.buckets.failed ≡ false;
  stage : l.buckets.stage ≡ l.initial.buckets.stage;
  timely : All (λ r. IsTime r.time) l.rest;
  many : l.passed + length l.rest ≡ length l.rows;
  order : DontFall l.passed (drop l.shift-index l.shifts);
  reaches : (stage : Stage) → IsAfter stage [] l.initial.buckets
      → Reaches stage l.buckets (calls_of l.passed l.rest (made (length l.rows) (drop l.shift-index l.shifts))) (calls_of 0 l.rows (made (length l.rows) l.shifts));
}

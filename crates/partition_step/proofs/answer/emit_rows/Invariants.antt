use Rattle.partition_step.proofs.Emitting.{HasEmitted}
use Rattle.partition_step.proofs.answer.emit_rows.Given as goal

abbrev pub invariant-loop-row : goal.invariant-loop-row
invariant-loop-row l = HasEmitted l.fn.next l.fn.stamp l.fn.rows l.row-index l.fn.producer l.producer

use Rattle.std.proofs.Common.{◌≡◌, ◌+◌, ◌≤◌, length}
use Rattle.std.specs.Prelude.{fold}
use Rattle.input_faults.specs.Records.{column_after}
use Rattle.input_faults.proofs.records.column_behind.Given as goal

abbrev pub invariant-loop-byte : goal.invariant-loop-byte
invariant-loop-byte l = record {
  value : fold column_after l.column l.rest ≡ fold column_after 1 l.fn.front;
  room : l.column + length l.rest ≤ length l.fn.front + 1;
}

abbrev pub decreases-loop-byte : goal.decreases-loop-byte
decreases-loop-byte l = length l.rest

use Rattle.std.proofs.Common.{◌≡◌, ◌+◌, ◌≤◌, length}
use Rattle.input_faults.specs.Records.{lines_ended}
use Rattle.input_faults.proofs.records.line_from.Given as goal

abbrev pub invariant-loop-byte : goal.invariant-loop-byte
invariant-loop-byte l = record {
  value : l.line + lines_ended l.rest ≡ l.fn.line + lines_ended l.fn.bytes;
  room : l.line + length l.rest ≤ l.fn.line + length l.fn.bytes;
}

abbrev pub decreases-loop-byte : goal.decreases-loop-byte
decreases-loop-byte l = length l.rest

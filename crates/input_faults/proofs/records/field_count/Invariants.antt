use Rattle.std.proofs.Common.{◌+◌, ◌≤◌, length}
use Rattle.input_faults.specs.Records.{fields_in}
use Rattle.input_faults.proofs.ScanFacts.{IsCounted}
use Rattle.input_faults.proofs.records.field_count.Given as goal

abbrev pub invariant-loop-byte : goal.invariant-loop-byte
invariant-loop-byte l = record {
  counted : IsCounted l.ended l.state l.rest (length (fields_in l.fn.text));
  room : l.ended + length l.rest ≤ length l.fn.text;
}

abbrev pub decreases-loop-byte : goal.decreases-loop-byte
decreases-loop-byte l = length l.rest

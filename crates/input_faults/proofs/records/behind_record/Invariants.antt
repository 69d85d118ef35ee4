use Rattle.std.proofs.Common.{◌≡◌, length}
use Rattle.input_faults.specs.Records.{behind_record, left_of}
use Rattle.input_faults.proofs.records.behind_record.Given as goal

abbrev pub invariant-loop-byte : goal.invariant-loop-byte
invariant-loop-byte l = behind_record (left_of l.state l.rest) ≡ behind_record (left_of l.fn.state l.fn.text)

abbrev pub decreases-loop-byte : goal.decreases-loop-byte
decreases-loop-byte l = length l.rest

use Rattle.std.proofs.Common.{◌≡◌, length}
use Rattle.input_faults.specs.Records.{drop_ends}
use Rattle.input_faults.proofs.records.without_ends.Given as goal

abbrev pub invariant-loop-byte : goal.invariant-loop-byte
invariant-loop-byte l = drop_ends l.rest ≡ drop_ends l.fn.text

abbrev pub decreases-loop-byte : goal.decreases-loop-byte
decreases-loop-byte l = length l.rest

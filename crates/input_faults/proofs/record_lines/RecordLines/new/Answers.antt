use Rattle.std.proofs.Common.{refl}
use Rattle.input_faults.proofs.RecordLinesFacts.{counted_none}
use Rattle.input_faults.proofs.record_lines.RecordLines.new.Goals as goal

pub invariant_of-result : goal.invariant_of-result
invariant_of-result c = record {
  behind = λ later at. refl;
  counted = counted_none c.args.text.now;
}

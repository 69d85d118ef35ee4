use Rattle.std.proofs.Common.{◌≡◌, length}
use Rattle.input_faults.specs.Spots.{nothing_said, said_before}
use Rattle.input_faults.proofs.lines.said_before.Given as goal

abbrev pub invariant-loop-line : goal.invariant-loop-line
invariant-loop-line l = said_before l.fn.number l.before l.lines ≡ said_before l.fn.number nothing_said l.initial.lines

abbrev pub decreases-loop-line : goal.decreases-loop-line
decreases-loop-line l = length l.lines

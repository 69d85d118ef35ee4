use Rattle.std.proofs.Common.{◌≡◌, length}
use Rattle.plan_reader.specs.Draft.{said_after}
use Rattle.plan_reader.proofs.read.take_all.Given as goal

abbrev pub invariant-loop-line : goal.invariant-loop-line
invariant-loop-line l = said_after l.draft l.lines ≡ said_after l.initial.draft l.initial.lines

abbrev pub decreases-loop-line : goal.decreases-loop-line
decreases-loop-line l = length l.lines

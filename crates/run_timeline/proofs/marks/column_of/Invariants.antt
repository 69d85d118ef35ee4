use Rattle.std.proofs.Common.{◌≡◌, ◌+◌, drop}
use Rattle.run_timeline.specs.Marks.{column_of}
use Rattle.run_timeline.proofs.marks.column_of.Given as goal

abbrev pub invariant-loop-column : goal.invariant-loop-column
invariant-loop-column l = l.column + column_of (drop l.column l.frames) l.place ≡ column_of l.frames l.place

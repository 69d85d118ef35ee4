use Rattle.std.proofs.Common.{◌≡◌, take}
use Rattle.reach_finder.specs.Traced.{marks_in, rows_in}
use Rattle.row_origin.specs.Origins.{only}
use Rattle.reach_finder.proofs.walk.marked.Given as goal

abbrev pub invariant-loop-n : goal.invariant-loop-n
invariant-loop-n l = record {
  rows : rows_in l.xs.items ≡ take l.n l.rows;
  marks : marks_in l.xs.items ≡ only l.place l.n;
}

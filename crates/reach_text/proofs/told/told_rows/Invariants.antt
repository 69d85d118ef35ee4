use Rattle.std.proofs.Common.{◌≡◌, ◌+◌, ◌++◌, drop}
use Rattle.reach_finder.specs.Traced.{marks_in, rows_in}
use Rattle.reach_text.specs.Told.{told_from}
use Rattle.reach_text.proofs.told.told_rows.Given as goal

abbrev pub invariant-loop-place : goal.invariant-loop-place
invariant-loop-place l = l.told.items ++ told_from (l.place + 1) (rows_in (drop l.place l.rows)) (marks_in (drop l.place l.rows)) ≡ told_from 1 (rows_in l.rows) (marks_in l.rows)

use Rattle.std.proofs.Common.{◌≡◌, ◌++◌, drop}
use Rattle.origin_text.specs.Alone.{marked_from}
use Rattle.origin_text.proofs.alone.marked_rows.Given as goal

abbrev pub invariant-loop-place : goal.invariant-loop-place
invariant-loop-place l = l.chosen.items ++ marked_from l.place (drop l.place l.rows) l.marks ≡ marked_from 0 l.rows l.marks

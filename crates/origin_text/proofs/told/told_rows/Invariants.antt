use Rattle.std.proofs.Common.{◌≡◌, ◌++◌, drop}
use Rattle.origin_text.specs.Told.{told_from}
use Rattle.origin_text.proofs.told.told_rows.Given as goal

abbrev pub invariant-loop-place : goal.invariant-loop-place
invariant-loop-place l = l.told.items ++ told_from l.place (drop l.place l.stage.rows) l.stage.roles ≡ told_from 0 l.stage.rows l.stage.roles

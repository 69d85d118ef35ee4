use Rattle.std.proofs.Common.{◌≡◌, take}
use Rattle.row_cause.specs.Causes.{of_key}
use Rattle.row_origin.specs.Stages.{placed_from, placed_to}
use Rattle.cause_finder.proofs.keyed.keyed.Given as goal

abbrev pub invariant-loop-place : goal.invariant-loop-place
invariant-loop-place l = l.keyed.items ≡ of_key l.by l.key (placed_to l.stage l.part (placed_from 0 (take l.place l.rows)))

use Rattle.std.proofs.Common.{◌≡◌, ◌≤◌, take}
use Rattle.std.specs.Prelude.{count_by}
use Rattle.reach_finder.specs.Traced.{rows_in}
use Rattle.reach_text.specs.Told.{is_with}
use Rattle.reach_text.proofs.told.rows_before.Given as goal

abbrev pub invariant-loop-place : goal.invariant-loop-place
invariant-loop-place l = record {
  count : l.count ≡ count_by (is_with l.stage l.by l.x.row) (take l.place (rows_in l.rows));
  few : l.count ≤ l.place;
}

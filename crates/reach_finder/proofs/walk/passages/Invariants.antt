use Rattle.std.proofs.Common.{◌≡◌, ◌++◌, [], drop, length, map}
use Rattle.std.specs.Prelude.{All}
use Rattle.evaluation.specs.StageRows.{HasTime}
use Rattle.row_origin.specs.Origins.{only}
use Rattle.row_reach.specs.Reach.{passages}
use Rattle.reach_finder.specs.Found.{passage_of}
use Rattle.reach_finder.specs.Traced.{marks_in, rows_in}
use Rattle.reach_finder.proofs.walk.passages.Given as goal

abbrev pub invariant-loop-stage : goal.invariant-loop-stage
invariant-loop-stage l = record {
  early : All HasTime (rows_in l.rows.early.items);
  late : All HasTime (rows_in l.rows.late.items);
  found : map passage_of l.found.items ++ passages (drop l.stage-index l.plan.stages) (rows_in l.rows.early.items) (rows_in l.rows.late.items) (marks_in (l.rows.early.items ++ l.rows.late.items))
      ≡ passages l.plan.stages l.trades.rows [] (only l.place (length l.trades.rows));
}

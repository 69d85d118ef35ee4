use Rattle.std.proofs.Common.{◌≡◌, ◌++◌, List, [], drop, length, take}
use Rattle.tuple_edge.specs.declared.row.Row.{Row}
use Rattle.evaluation.specs.StageRows.{PartsTook, early_replies}
use Rattle.row_cause.specs.Causes.{Cause}
use Rattle.row_origin.specs.Stages.{early_causes, placed_from}
use Rattle.origin_finder.specs.Said.{IsLeft}
use Rattle.origin_finder.proofs.passing.pass_early.Given as goal

abbrev pub invariant-loop-place : goal.invariant-loop-place
invariant-loop-place l = record {
  parts : length l.states ≡ l.stage.parts;
  took : PartsTook l.stage 0 l.states (take l.place l.rows);
  answers : early_replies l.stage [] l.rows ≡ l.out.items ++ early_replies l.stage (take l.place l.rows) (drop l.place l.rows);
  said : (late : List Row) (left all : List Cause) → IsLeft l.stage (l.rows ++ late) l.initial.said.items (early_causes l.stage [] (placed_from 0 l.rows) ++ left) all
      → IsLeft l.stage (l.rows ++ late) l.said.items (early_causes l.stage (placed_from 0 (take l.place l.rows)) (placed_from l.place (drop l.place l.rows)) ++ left) all;
}

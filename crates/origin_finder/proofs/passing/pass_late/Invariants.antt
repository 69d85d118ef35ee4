use Rattle.std.proofs.Common.{◌≡◌, ◌++◌, ◌-◌, List, drop, length, take}
use Rattle.evaluation.specs.StageRows.{PartsTook, late_replies}
use Rattle.row_cause.specs.Causes.{Cause}
use Rattle.row_origin.specs.Stages.{late_causes, placed_from}
use Rattle.origin_finder.specs.Said.{IsLeft}
use Rattle.origin_finder.proofs.passing.pass_late.Given as goal

abbrev pub invariant-loop-state : goal.invariant-loop-state
invariant-loop-state l = record {
  part : l.part ≡ l.state-index;
  parts : length l.states ≡ l.stage.parts;
  took : PartsTook l.stage l.state-index (drop l.state-index l.states) (take l.early l.rows);
  answers : l.initial.out.items ++ late_replies l.stage (take l.early l.rows) (drop l.early l.rows) 0 l.stage.parts
      ≡ l.out.items ++ late_replies l.stage (take l.early l.rows) (drop l.early l.rows) l.state-index (l.stage.parts - l.state-index);
  said : (left all : List Cause) → IsLeft l.stage l.rows l.initial.said.items (late_causes l.stage (placed_from 0 (take l.early l.rows)) (placed_from l.early (drop l.early l.rows)) 0 l.stage.parts ++ left) all
      → IsLeft l.stage l.rows l.said.items (late_causes l.stage (placed_from 0 (take l.early l.rows)) (placed_from l.early (drop l.early l.rows)) l.state-index (l.stage.parts - l.state-index) ++ left) all;
}

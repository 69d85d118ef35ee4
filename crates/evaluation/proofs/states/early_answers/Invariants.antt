use Rattle.std.proofs.Common.{◌≡◌, ◌++◌, [], drop, length, take}
use Rattle.evaluation.specs.StageRows.{PartsTook, early_replies}
use Rattle.evaluation.proofs.states.early_answers.Given as goal

abbrev pub invariant-loop-row : goal.invariant-loop-row
invariant-loop-row l = record {
  parts : length l.states ≡ l.stage.parts;
  took : PartsTook l.stage 0 l.initial.states [] → PartsTook l.stage 0 l.states (take l.row-index l.rows);
  answers : PartsTook l.stage 0 l.initial.states []
      → early_replies l.stage [] l.rows ≡ l.out.items ++ early_replies l.stage (take l.row-index l.rows) (drop l.row-index l.rows);
}

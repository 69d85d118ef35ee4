use Rattle.std.proofs.Common.{◌≡◌, ◌++◌, ◌-◌, List, drop, length}
use Rattle.tuple_edge.specs.declared.row.Row.{Row}
use Rattle.evaluation.specs.StageRows.{PartsTook, late_replies}
use Rattle.evaluation.proofs.states.late_answers.Given as goal

abbrev pub invariant-loop-state : goal.invariant-loop-state
invariant-loop-state l = record {
  part : l.part ≡ l.state-index;
  parts : length l.states ≡ l.stage.parts;
  took : (early : List Row) → PartsTook l.stage 0 l.initial.states early → PartsTook l.stage l.state-index (drop l.state-index l.states) early;
  answers : (early : List Row) → PartsTook l.stage 0 l.initial.states early
      → late_replies l.stage early l.rows 0 l.stage.parts ≡ l.out.items ++ late_replies l.stage early l.rows l.state-index (l.stage.parts - l.state-index);
}

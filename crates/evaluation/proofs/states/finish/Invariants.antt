use Rattle.std.proofs.Common.{List, take}
use Rattle.tuple_edge.specs.declared.row.Row.{Row}
use Rattle.evaluation.specs.StageRows.{HasTaken}
use Rattle.evaluation.proofs.Taking.{Answered}
use Rattle.evaluation.proofs.states.finish.Given as goal

abbrev pub invariant-loop-row : goal.invariant-loop-row
invariant-loop-row l = (before : List Row) → HasTaken l.stage.op l.initial.state before
    → Answered l.stage l.part l.state before (take l.row-index l.rows) l.initial.out.items l.out.items

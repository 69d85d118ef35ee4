use Rattle.std.proofs.Common.{◌≡◌, ◌++◌, take}
use Rattle.evaluation.specs.StageRows.{HasTaken, rows_to}
use Rattle.origin_finder.specs.Passing.{NotesUpTo, replies_from}
use Rattle.origin_finder.proofs.passing.finish.Given as goal

abbrev pub invariant-loop-place : goal.invariant-loop-place
invariant-loop-place l =
    HasTaken l.stage.op l.initial.state (rows_to l.stage l.part (take l.early l.rows)) → record {
      took : HasTaken l.stage.op l.state (rows_to l.stage l.part (take l.place l.rows));
      answers : l.initial.out.items ++ replies_from l.stage l.part l.rows l.early ≡ l.out.items ++ replies_from l.stage l.part l.rows l.place;
      said : NotesUpTo l.stage l.part l.rows l.early l.place l.initial.said.items l.said.items;
    }

use Rattle.run_watch.proofs.WorkedRows.{worked_rows}
use Rattle.run_watch.proofs.law.worked_rows.Goals as goal

pub returns : goal.returns
returns c = worked_rows

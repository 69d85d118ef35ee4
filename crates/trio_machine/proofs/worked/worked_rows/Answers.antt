use Rattle.trio_machine.proofs.WorkedRows.{worked_rows}
use Rattle.trio_machine.proofs.worked.worked_rows.Goals as goal

pub returns : goal.returns
returns c = worked_rows

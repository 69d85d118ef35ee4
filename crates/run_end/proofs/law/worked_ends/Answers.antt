use Rattle.run_end.proofs.Worked.{worked_ends}
use Rattle.run_end.proofs.law.worked_ends.Goals as goal

pub returns : goal.returns
returns c = worked_ends

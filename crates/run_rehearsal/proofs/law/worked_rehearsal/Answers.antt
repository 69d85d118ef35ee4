use Rattle.run_rehearsal.proofs.Worked.{worked_rehearsal}
use Rattle.run_rehearsal.proofs.law.worked_rehearsal.Goals as goal

pub returns : goal.returns
returns c = worked_rehearsal

use Rattle.trio_state.proofs.Worked.{worked_texts}
use Rattle.trio_state.proofs.law.worked_texts.Goals as goal

pub returns : goal.returns
returns c = worked_texts

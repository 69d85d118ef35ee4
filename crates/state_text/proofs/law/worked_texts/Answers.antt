use Rattle.state_text.proofs.Worked.{worked_texts}
use Rattle.state_text.proofs.law.worked_texts.Goals as goal

pub returns : goal.returns
returns c = worked_texts

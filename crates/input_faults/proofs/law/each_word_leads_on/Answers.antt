use Rattle.input_faults.proofs.LeadsOn.{leads_on}
use Rattle.input_faults.proofs.law.each_word_leads_on.Goals as goal

pub returns : goal.returns
returns c = leads_on

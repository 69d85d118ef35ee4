use Rattle.record_faults.proofs.First.{first_is}
use Rattle.record_faults.proofs.law.first_is_the_refusal.Goals as goal

pub returns : goal.returns
returns c = first_is

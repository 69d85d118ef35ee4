use Rattle.record_faults.proofs.Accepted.{accepted_are}
use Rattle.record_faults.proofs.law.accepted_are_accepted.Goals as goal

pub returns : goal.returns
returns c = accepted_are

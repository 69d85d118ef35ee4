use Rattle.machine_parts.proofs.SafePairsKept.{safe_served}
use Rattle.machine_parts.proofs.safe_law.safe_pairs_are_served.Goals as goal

pub returns : goal.returns
returns c = safe_served

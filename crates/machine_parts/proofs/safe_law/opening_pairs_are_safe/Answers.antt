use Rattle.machine_parts.proofs.SafePairsKept.{opening_safe}
use Rattle.machine_parts.proofs.safe_law.opening_pairs_are_safe.Goals as goal

pub returns : goal.returns
returns c = opening_safe

use Rattle.machine_parts.proofs.SafePairsKept.{safe_kept}
use Rattle.machine_parts.proofs.safe_law.safe_pairs_stay_safe.Goals as goal

pub returns : goal.returns
returns c = safe_kept

use Rattle.machine_parts.proofs.SafeThroughout.{safe_throughout}
use Rattle.machine_parts.proofs.safe_law.safe_pairs_hold_throughout.Goals as goal

pub returns : goal.returns
returns c = safe_throughout

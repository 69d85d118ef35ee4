use Rattle.machine_parts.proofs.PartsKept.{lengths_kept}
use Rattle.machine_parts.proofs.part_law.lengths_are_kept.Goals as goal

pub returns : goal.returns
returns c = lengths_kept

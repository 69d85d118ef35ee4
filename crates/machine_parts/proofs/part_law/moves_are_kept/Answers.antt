use Rattle.machine_parts.proofs.PartsKept.{moves_kept}
use Rattle.machine_parts.proofs.part_law.moves_are_kept.Goals as goal

pub returns : goal.returns
returns c = moves_kept

use Rattle.machine_parts.proofs.PartsKept.{incarnations_kept}
use Rattle.machine_parts.proofs.part_law.incarnations_are_kept.Goals as goal

pub returns : goal.returns
returns c = incarnations_kept

use Rattle.machine_parts.proofs.PartsKept.{counting_kept}
use Rattle.machine_parts.proofs.part_law.counting_is_kept.Goals as goal

pub returns : goal.returns
returns c = counting_kept

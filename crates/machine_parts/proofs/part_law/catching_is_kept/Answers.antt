use Rattle.machine_parts.proofs.PartsKept.{catching_kept}
use Rattle.machine_parts.proofs.part_law.catching_is_kept.Goals as goal

pub returns : goal.returns
returns c = catching_kept

use Rattle.machine_parts.proofs.PartsKept.{links_kept}
use Rattle.machine_parts.proofs.part_law.links_are_kept.Goals as goal

pub returns : goal.returns
returns c = links_kept

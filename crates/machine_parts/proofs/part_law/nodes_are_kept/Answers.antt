use Rattle.machine_parts.proofs.PartsKept.{nodes_kept}
use Rattle.machine_parts.proofs.part_law.nodes_are_kept.Goals as goal

pub returns : goal.returns
returns c = nodes_kept

use Rattle.machine_parts.proofs.PartsKept.{acknowledging_kept}
use Rattle.machine_parts.proofs.part_law.acknowledging_is_kept.Goals as goal

pub returns : goal.returns
returns c = acknowledging_kept

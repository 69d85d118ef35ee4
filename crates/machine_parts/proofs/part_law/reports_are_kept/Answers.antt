use Rattle.machine_parts.proofs.PartsKept.{reports_kept}
use Rattle.machine_parts.proofs.part_law.reports_are_kept.Goals as goal

pub returns : goal.returns
returns c = reports_kept

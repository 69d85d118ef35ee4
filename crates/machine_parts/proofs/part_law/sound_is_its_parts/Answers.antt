use Rattle.machine_parts.proofs.PartsKept.{sound_is_parts}
use Rattle.machine_parts.proofs.part_law.sound_is_its_parts.Goals as goal

pub returns : goal.returns
returns c = sound_is_parts

use Rattle.trio_machine.proofs.Laws.{output_is_a_front}
use Rattle.trio_machine.proofs.law.output_is_a_front.Goals as goal

pub returns : goal.returns
returns c = output_is_a_front

use Rattle.pair_machine.proofs.EdgeLaws.{stages_answer}
use Rattle.pair_machine.proofs.law.stages_answer.Goals as goal

pub returns : goal.returns
returns c = stages_answer

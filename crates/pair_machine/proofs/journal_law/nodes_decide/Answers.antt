use Rattle.pair_machine.proofs.Journal.{nodes_decide}
use Rattle.pair_machine.proofs.journal_law.nodes_decide.Goals as goal

pub returns : goal.returns
returns c = nodes_decide

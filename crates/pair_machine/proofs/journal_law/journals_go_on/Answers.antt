use Rattle.pair_machine.proofs.Journal.{journals_go_on}
use Rattle.pair_machine.proofs.journal_law.journals_go_on.Goals as goal

pub returns : goal.returns
returns c = journals_go_on

use Rattle.pair_machine.proofs.EdgeLaws.{have_the_form}
use Rattle.pair_machine.proofs.law.edges_have_the_form.Goals as goal

pub returns : goal.returns
returns c = have_the_form

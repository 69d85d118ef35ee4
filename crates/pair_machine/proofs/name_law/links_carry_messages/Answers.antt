use Rattle.pair_machine.proofs.PlanNodes.{links_carry}
use Rattle.pair_machine.proofs.name_law.links_carry_messages.Goals as goal

pub returns : goal.returns
returns c = links_carry

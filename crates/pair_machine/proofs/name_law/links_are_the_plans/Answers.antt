use Rattle.pair_machine.proofs.PlanNodes.{links_named}
use Rattle.pair_machine.proofs.name_law.links_are_the_plans.Goals as goal

pub returns : goal.returns
returns c = links_named

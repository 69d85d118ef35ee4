use Rattle.pair_machine.proofs.PlanNodes.{nodes_named}
use Rattle.pair_machine.proofs.name_law.nodes_are_the_plans.Goals as goal

pub returns : goal.returns
returns c = nodes_named

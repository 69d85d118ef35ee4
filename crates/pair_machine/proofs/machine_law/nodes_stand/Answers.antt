use Rattle.pair_machine.proofs.RunLaw.{nodes_stand}
use Rattle.pair_machine.proofs.machine_law.nodes_stand.Goals as goal

pub returns : goal.returns
returns g c = nodes_stand g.N.StandsForNode.stands

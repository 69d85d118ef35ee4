use Rattle.replica_node.proofs.CatchUps.{catch_ups_stand}
use Rattle.replica_node.proofs.law.newcomers_catch_up.Goals as goal

pub returns : goal.returns
returns c = catch_ups_stand

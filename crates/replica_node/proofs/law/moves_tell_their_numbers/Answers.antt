use Rattle.replica_node.proofs.Telling.{moves_tell}
use Rattle.replica_node.proofs.law.moves_tell_their_numbers.Goals as goal

pub returns : goal.returns
returns c = moves_tell

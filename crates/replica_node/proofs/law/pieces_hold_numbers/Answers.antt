use Rattle.replica_node.proofs.Holding.{pieces_hold}
use Rattle.replica_node.proofs.law.pieces_hold_numbers.Goals as goal

pub returns : goal.returns
returns c = pieces_hold

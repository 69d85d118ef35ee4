use Rattle.state_laws.proofs.MovesKept.{any_order}
use Rattle.state_laws.proofs.move_law.any_order_moves.Goals as goal

pub returns : goal.returns
returns c = any_order

use Rattle.claim_board.proofs.Turning.{head_of}
use Rattle.claim_board.proofs.seat.BoardSeat.front.Goals as goal

pub returns : goal.returns
returns g c = head_of c.args.self.now.held.items c.index.result.now c.requires c.index.ensures

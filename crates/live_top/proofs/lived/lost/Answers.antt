use Rattle.std.proofs.Common.{inr, refl}
use Rattle.live_top.proofs.lived.lost.Goals as goal

pub returns-in-Ok : goal.returns-in-Ok
returns-in-Ok c = inr (c.in-Ok.line, refl, c.in-Ok.ensures)

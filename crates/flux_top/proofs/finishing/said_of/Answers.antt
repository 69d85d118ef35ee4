use Rattle.std.proofs.Common.{refl}
use Rattle.flux_top.proofs.finishing.said_of.Goals as goal

pub returns-in_ok-line-in-Lost : goal.returns-in_ok-line-in-Lost
returns-in_ok-line-in-Lost c = rw c.in-Lost.is (c.in_ok-line-in-Lost.line, refl, c.in_ok-line-in-Lost.ensures)

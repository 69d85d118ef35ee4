use Rattle.claim_board.proofs.RuleLaws.{each_is_once}
use Rattle.claim_board.proofs.law.each_is_once.Goals as goal

pub returns : goal.returns
returns g c = each_is_once g.T.Named.name

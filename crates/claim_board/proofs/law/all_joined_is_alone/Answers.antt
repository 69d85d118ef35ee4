use Rattle.claim_board.proofs.RuleLaws.{all_joined_is_alone}
use Rattle.claim_board.proofs.law.all_joined_is_alone.Goals as goal

pub returns : goal.returns
returns g c = all_joined_is_alone g.T.Named.name

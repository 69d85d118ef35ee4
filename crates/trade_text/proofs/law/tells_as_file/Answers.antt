use Rattle.trade_text.proofs.Telling as telling
use Rattle.trade_text.proofs.law.tells_as_file.Goals as goal

pub returns : goal.returns
returns c = telling.tells_as_file

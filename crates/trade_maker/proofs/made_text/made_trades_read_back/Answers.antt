use Rattle.trade_maker.proofs.ReadBack.{reads_back}
use Rattle.trade_maker.proofs.made_text.made_trades_read_back.Goals as goal

pub returns : goal.returns
returns c = reads_back

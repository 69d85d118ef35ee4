use Rattle.trade_sift.proofs.Once.{each_once}
use Rattle.trade_sift.proofs.law.each_stands_once.Goals as goal

pub returns : goal.returns
returns c = each_once

use Rattle.std.proofs.Common.{append_assoc}
use Rattle.trade_check.proofs.sentences.push_place.Goals as goal

pub returns : goal.returns
returns c = rw c.in_ok-write.ensures.bytes (simp append_assoc)

use Rattle.std.proofs.Common.{append_assoc}
use Rattle.plan_check.proofs.sentences.push_several.Goals as goal

pub returns : goal.returns
returns c = rw (c.in_ok-write.ensures.bytes, c.column_name-by.ensures) (simp append_assoc)

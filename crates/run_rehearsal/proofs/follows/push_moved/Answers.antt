use Rattle.std.proofs.Common.{◌∙◌, append_assoc}
use Rattle.run_rehearsal.proofs.follows.push_moved.Goals as goal

pub returns : goal.returns
returns c = c.in_ok-write.ensures.bytes ∙ simp append_assoc

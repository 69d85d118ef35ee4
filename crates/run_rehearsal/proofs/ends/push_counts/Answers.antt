use Rattle.std.proofs.Common.{◌∙◌, append_assoc}
use Rattle.run_rehearsal.proofs.ends.push_counts.Goals as goal

pub returns : goal.returns
returns c = c.in_ok-write-2.ensures.bytes ∙ simp (c.in_ok-write.ensures.bytes, append_assoc)

use Rattle.std.proofs.Common.{append_assoc}
use Rattle.plan_check.proofs.sentences.push_version.Goals as goal

pub returns : goal.returns
returns c = rw (c.in_ok-write.ensures.bytes, c.sources_text-sources.ensures) (simp append_assoc)

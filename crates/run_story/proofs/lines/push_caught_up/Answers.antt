use Rattle.std.proofs.Common.{◌∙◌, append_assoc}
use Rattle.run_story.proofs.lines.push_caught_up.Goals as goal

pub returns : goal.returns
returns c = c.in_ok-write.ensures.bytes ∙ simp (c.in_ok-push_incarnation.ensures, append_assoc)

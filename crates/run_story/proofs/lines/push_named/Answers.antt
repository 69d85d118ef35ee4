use Rattle.std.proofs.Common.{◌∙◌, append_assoc}
use Rattle.run_story.proofs.lines.push_named.Goals as goal

pub returns : goal.returns
returns c = c.in_ok-push_fell.ensures ∙ simp (c.in_ok-write.ensures.bytes, c.in_ok-push_node.ensures, append_assoc)

use Rattle.std.proofs.Common.{◌∙◌, append_assoc}
use Rattle.run_story.proofs.orders.push_back.Goals as goal

pub returns : goal.returns
returns c = c.in_ok-write.ensures.bytes ∙ simp (c.in_ok-push_node.ensures, c.in_ok-push_str.ensures.bytes, append_assoc)

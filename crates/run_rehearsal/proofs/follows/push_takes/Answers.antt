use Rattle.std.proofs.Common.{◌∙◌, append_assoc}
use Rattle.run_rehearsal.proofs.follows.push_takes.Goals as goal

pub returns : goal.returns
returns c = c.in_ok-write.ensures.bytes ∙ simp (c.in_ok-push_node-2.ensures, c.in_ok-push_str.ensures.bytes, c.in_ok-push_node.ensures, c.partner.ensures, append_assoc)

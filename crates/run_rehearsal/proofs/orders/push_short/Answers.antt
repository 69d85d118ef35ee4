use Rattle.std.proofs.Common.{◌∙◌, append_assoc}
use Rattle.run_rehearsal.proofs.orders.push_short.Goals as goal

pub returns : goal.returns
returns c = c.in_ok-write-2.ensures.bytes ∙ simp (c.in_ok-push_node.ensures, c.in_ok-write.ensures.bytes, c.reached_word-word.ensures, append_assoc)

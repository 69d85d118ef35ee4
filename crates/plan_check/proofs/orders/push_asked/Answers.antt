use Rattle.std.proofs.Common.{append_assoc}
use Rattle.plan_check.proofs.orders.push_asked.Goals as goal

pub returns : goal.returns
returns c = rw (c.in_ok-write.ensures.bytes, c.in_ok-push_node.ensures, c.in_ok-push_str.ensures.bytes) (simp append_assoc)

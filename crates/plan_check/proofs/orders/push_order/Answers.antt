use Rattle.std.proofs.Common.{append_assoc}
use Rattle.plan_check.proofs.orders.push_order.Goals as goal

pub returns : goal.returns
returns c = rw (c.in_ok-push_str-3.ensures.bytes, c.in_ok-push_return.ensures, c.in_ok-write.ensures.bytes, c.in_ok-push_node.ensures, c.in_ok-push_str-2.ensures.bytes, c.in_ok-push_order.ensures, c.in_ok-push_str.ensures.bytes, c.kind_text-kind.ensures) (simp append_assoc)

use Rattle.std.proofs.Common.{append_assoc}
use Rattle.plan_check.proofs.warning_text.push_alone.Goals as goal

pub returns : goal.returns
returns c = rw (c.in_ok-write.ensures.bytes, c.in_ok-push_order-2.ensures, c.in_ok-push_str.ensures.bytes, c.in_ok-push_order.ensures, c.alone_text-what.ensures) (simp append_assoc)

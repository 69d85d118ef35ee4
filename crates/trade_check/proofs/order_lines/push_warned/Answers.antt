use Rattle.std.proofs.Common.{append_assoc}
use Rattle.trade_check.proofs.order_lines.push_warned.Goals as goal

pub returns : goal.returns
returns c =
    rw (c.in_ok-push_reach.ensures, c.in_ok-write.ensures.bytes, c.in_ok-push_node.ensures, c.in_ok-push_str.ensures.bytes, c.in_ok-push_order.ensures) (simp append_assoc)

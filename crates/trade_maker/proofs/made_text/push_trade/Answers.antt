use Rattle.std.proofs.Common.{append_assoc, rules}
use Rattle.trade_maker.proofs.made_text.push_trade.Goals as goal

pub returns : goal.returns
returns c =
    rw (c.in_ok-push_money.ensures, c.in_ok-push_number-3.ensures, c.in_ok-push_side.ensures, c.in_ok-push_two_digits.ensures, c.in_ok-push.ensures.items, c.in_ok-push_number-2.ensures, c.in_ok-push_number.ensures)
    (simp append_assoc (search rules))

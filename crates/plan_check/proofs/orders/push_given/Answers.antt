use Rattle.std.specs.Prelude.{string_bytes}
use Rattle.plan_check.proofs.Pushing.{then}
use Rattle.plan_check.proofs.orders.push_given.Goals as goal

pub returns : goal.returns
returns c = then (string_bytes c.args.text.now) (string_bytes c.write.new.self) (string_bytes c.push_orders.new.text) _ _ c.in_ok-write.ensures.bytes c.in_ok-push_orders.ensures

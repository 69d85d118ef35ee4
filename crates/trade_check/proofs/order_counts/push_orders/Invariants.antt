use Rattle.std.proofs.Common.{◌≡◌, ◌++◌, take}
use Rattle.std.specs.Prelude.{flat_map}
use Rattle.trade_text.specs.TradesView.{inputs_in}
use Rattle.trade_check.specs.Counts.{items_of, order_warnings}
use Rattle.trade_check.proofs.order_counts.push_orders.Given as goal

abbrev pub invariant-loop-order : goal.invariant-loop-order
invariant-loop-order l =
    l.warnings.items ≡ l.initial.warnings.items ++ flat_map (λ o. order_warnings o (items_of l.plan (inputs_in l.inputs) o.node)) (take l.order-index l.orders)

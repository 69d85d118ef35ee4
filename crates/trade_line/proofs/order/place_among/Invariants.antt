use Rattle.std.proofs.Common.{◌≡◌, ◌+◌, drop}
use Rattle.trade_text.specs.TradesView.{inputs_in}
use Rattle.trade_line.specs.Order.{place_behind}
use Rattle.trade_line.proofs.order.place_among.Given as goal

abbrev pub invariant-loop-place : goal.invariant-loop-place
invariant-loop-place l = l.place + place_behind l.spot.time l.left (drop l.place (inputs_in l.inputs)) ≡ place_behind l.spot.time l.spot.before (inputs_in l.inputs)

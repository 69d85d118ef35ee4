use Rattle.std.proofs.Common.{◌≡◌, take}
use Rattle.trade_text.specs.TradesView.{inputs_in}
use Rattle.ingress_egress.proofs.ingress.Ingress.feed_all.Given as goal

abbrev pub invariant-loop-nth : goal.invariant-loop-nth
invariant-loop-nth l = l.self ≡ record l.fn.self { inputs = take l.nth (inputs_in l.fn.trades) }

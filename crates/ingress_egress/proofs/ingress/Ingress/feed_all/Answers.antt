use Rattle.std.proofs.Common.{◌∙◌, ap, arith, length}
use Rattle.ingress_egress.proofs.Coming.{all_come, comes_next}
use Rattle.ingress_egress.proofs.ingress.Ingress.feed_all.Goals as goal

pub loop-nth-preserved : goal.loop-nth-preserved
loop-nth-preserved c =
    let rows = ap length c.rows-count.ensures.rows in
    comes_next c.args.trades.now c.rows-count.ensures.limits c.loop-nth.nth (omega arith) c.args.self.now c.loop-nth.self c.feed.new.self c.loop-nth.invariant c.requires.open
    c.input.result c.input.ensures c.in_ok-feed.field-0 c.in_ok-feed.ensures.takes c.in_ok-feed.ensures.fed

pub returns : goal.returns
returns c =
    let rows = ap length c.rows-count.ensures.rows in
    c.loop-nth.invariant ∙ ap (λ xs. record c.args.self.now { inputs = xs }) (all_come c.args.trades.now c.loop-nth.nth (omega arith))

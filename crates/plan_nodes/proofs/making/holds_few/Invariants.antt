use Rattle.std.proofs.Common.{◌<◌, ℕ}
use Rattle.ingress_egress.specs.IngressView.{producer_at}
use Rattle.plan_nodes.specs.States.{HoldsFew}
use Rattle.plan_nodes.proofs.making.holds_few.Given as goal

abbrev pub invariant-loop-source : goal.invariant-loop-source
invariant-loop-source l = (q : ℕ) → q < l.source → HoldsFew l.fn.hold (producer_at l.fn.node q)

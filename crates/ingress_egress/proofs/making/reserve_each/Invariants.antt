use Rattle.ingress_egress.proofs.EachSource.{HaveRoom}
use Rattle.ingress_egress.proofs.making.reserve_each.Given as goal

abbrev pub invariant-loop-source : goal.invariant-loop-source
invariant-loop-source l = HaveRoom l.initial.producers.items l.producers.items l.source l.fn.items

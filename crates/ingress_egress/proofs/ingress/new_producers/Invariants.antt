use Rattle.std.proofs.Common.{◌≡◌}
use Rattle.ingress_egress.specs.IngressView.{new_producers}
use Rattle.ingress_egress.proofs.ingress.new_producers.Given as goal

abbrev pub invariant-loop-source : goal.invariant-loop-source
invariant-loop-source l = l.producers.items ≡ new_producers l.parts l.source

use Rattle.std.proofs.Common.{◌≡◌, None}
use Rattle.std.specs.Prelude.{is_some}
use Rattle.flux_producer.specs.Due.{due_of}
use Rattle.pair_machine.specs.Consumers.{first_below}
use Rattle.ingress_egress.specs.IngressView.{producer_at}
use Rattle.ingress_egress.proofs.ingress.Ingress.source_due.Given as goal

abbrev pub invariant-loop-source : goal.invariant-loop-source
invariant-loop-source l = first_below (λ q. is_some (due_of (producer_at l.self q))) l.source ≡ None

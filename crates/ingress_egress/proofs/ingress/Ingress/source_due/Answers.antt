use Rattle.std.proofs.Common.{◌≡◌, ◌∙◌, ◌<◌, true, length, ap, sym, arith}
use Rattle.std.specs.Prelude.{is_some}
use Rattle.flux_producer.specs.Due.{due_of}
use Rattle.ingress_egress.specs.IngressView.{IngressView, producer_at}
use Rattle.ingress_egress.proofs.IngressSteps.{found_at, producer_there}
use Rattle.ingress_egress.proofs.ingress.Ingress.source_due.Goals as goal

pub returns-in-Some-clause-source : goal.returns-in-Some-clause-source
returns-in-Some-clause-source c =
    let i = c.args.self.now in
    let source = c.loop-source.source in
    let same = ap (λ (v : IngressView). v.producers) c.self.view_is in
    let count = ap length same in
    let within : source < length i.producers = omega (arith, c.loop-source-test.true, c.len-source-end.ensures, count) in
    let there = producer_there i c.self.inside.producers.items source c.index.result.now same within c.index.ensures in
    let some : is_some (due_of (producer_at i source)) ≡ true = ap is_some (ap due_of (sym there) ∙ sym c.due.ensures.value ∙ c.in-Some.is) in
    found_at (length i.producers) source (λ q. is_some (due_of (producer_at i q))) c.loop-source.invariant within some

use Rattle.std.proofs.Common.{ap, refl}
use Rattle.tuple_edge.specs.Input.{from_first}
use Rattle.trio_nodes.proofs.IngressSteps.{opens}
use Rattle.trio_nodes.proofs.ingress.TrioIngress.new.Goals as goal

pub returns-clause-stands : goal.returns-clause-stands
returns-clause-stands c = λ is. opens c.args.plan.now (from_first c.args.rows.now) is _ (ap from_first c.in_ok-rows.ensures.items) c.first_stage-first.ensures.first c.mark-mark.ensures.value refl c.in_ok-producer.ensures.opening

use Rattle.std.proofs.Common.{false, None, Some, refl}
use Rattle.core_drain.proofs.Found.{egress_merges_found, merges_found}
use Rattle.core_drain.proofs.next.merges.Goals as goal

pub returns-in-Some : goal.returns-in-Some
returns-in-Some g c = λ s stands. merges_found c.args.core.now s stands c.args.node c.in-Replica.stage c.in-Replica.part c.in-Replica.which c.in-Replica.is c.requires c.replica.result.now c.replica.ensures (Some c.in-Some.consumer.now) c.in-Some.ensures c.ready.result c.ready.ensures.value

pub returns-in-None : goal.returns-in-None
returns-in-None g c = λ s stands. merges_found c.args.core.now s stands c.args.node c.in-Replica.stage c.in-Replica.part c.in-Replica.which c.in-Replica.is c.requires c.replica.result.now c.replica.ensures None c.in-None.ensures false refl

pub returns-in-Egress : goal.returns-in-Egress
returns-in-Egress g c = λ s stands. egress_merges_found c.args.core.now s stands c.args.node c.in-Egress.is c.egress.result.now c.egress.ensures c.consumer-in-Egress.result.now c.consumer-in-Egress.ensures c.ready-in-Egress.result c.ready-in-Egress.ensures.value

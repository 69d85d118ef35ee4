use Rattle.std.proofs.Common.{false, None, Some, refl}
use Rattle.trio_core.specs.CoreView.{inputs_of}
use Rattle.trio_drain.proofs.Found.{egress_merges_found, merges_found}
use Rattle.trio_drain.proofs.Loops.{replica_named}
use Rattle.trio_drain.proofs.next.merges.Goals as goal

pub replica-requires-clause-there : goal.replica-requires-clause-there
replica-requires-clause-there c = (replica_named c.args.core.now c.args.node c.in-Replica.stage c.in-Replica.part c.in-Replica.copy c.in-Replica.is c.requires.there).0

pub replica-requires-clause-copy : goal.replica-requires-clause-copy
replica-requires-clause-copy c = (replica_named c.args.core.now c.args.node c.in-Replica.stage c.in-Replica.part c.in-Replica.copy c.in-Replica.is c.requires.there).1

pub returns-in-Some : goal.returns-in-Some
returns-in-Some c = λ s stands. merges_found c.args.core.now.plan (inputs_of c.args.core.now) s c.args.node c.in-Replica.stage c.in-Replica.part c.in-Replica.copy c.in-Replica.is c.replica.result.now c.replica.ensures.named (c.replica.ensures.stands s stands)
    (Some c.in-Some.consumer.now) c.in-Some.ensures c.ready.result c.ready.ensures.value

pub returns-in-None : goal.returns-in-None
returns-in-None c = λ s stands. merges_found c.args.core.now.plan (inputs_of c.args.core.now) s c.args.node c.in-Replica.stage c.in-Replica.part c.in-Replica.copy c.in-Replica.is c.replica.result.now c.replica.ensures.named (c.replica.ensures.stands s stands)
    None c.in-None.ensures false refl

pub returns-in-Egress : goal.returns-in-Egress
returns-in-Egress c = λ s stands. egress_merges_found c.args.core.now.plan (inputs_of c.args.core.now) s c.args.node c.in-Egress.is c.egress.result.now (c.egress.ensures.stands s stands) c.consumer-in-Egress.result.now c.consumer-in-Egress.ensures
    c.ready-in-Egress.result c.ready-in-Egress.ensures.value

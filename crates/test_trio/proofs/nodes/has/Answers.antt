use Rattle.trio_core.specs.CoreView.{inputs_of}
use Rattle.test_trio.proofs.Named.{has_control, has_replica}
use Rattle.test_trio.proofs.nodes.has.Goals as goal

pub returns-then-copy-lt-GROUP_SIZE : goal.returns-then-copy-lt-GROUP_SIZE
returns-then-copy-lt-GROUP_SIZE c = λ yes.
    has_replica c.nodes_are_the_plans.ensures c.args.core.now.plan c.plan.result.now (inputs_of c.args.core.now) c.args.node c.plan.ensures c.has.result yes
    c.in-Replica.stage c.in-Replica.part c.in-Replica.copy c.in-Replica.is c.if-copy-lt-GROUP_SIZE.true c.has.ensures

pub returns-in-Control : goal.returns-in-Control
returns-in-Control c = λ yes.
    has_control c.nodes_are_the_plans.ensures c.args.core.now.plan c.plan-in-Control.result.now (inputs_of c.args.core.now) c.args.node c.plan-in-Control.ensures c.has-in-Control.result yes
    c.in-Control.stage c.in-Control.part c.in-Control.is c.has-in-Control.ensures

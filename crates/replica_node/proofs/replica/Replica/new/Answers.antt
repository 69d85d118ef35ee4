use Rattle.replica_node.specs.declared.phase.Phase.TheVariants as phase
use Rattle.replica_node.proofs.Opening.{opens_stand}
use Rattle.replica_node.proofs.replica.Replica.new.Goals as goal

pub returns-clause-stands : goal.returns-clause-stands
returns-clause-stands c = λ rows. opens_stand c.args.plan.now rows c.role_in-role.ensures.limits c.role_in-role.result c.role_in-role.ensures.of_plan _
    (λ i. record { role = c.role_in-role.result; phase = phase.Running (c.in_ok-running.ensures i) })

use Rattle.trio_nodes.proofs.ReplicaSteps.{opens}
use Rattle.trio_nodes.proofs.replica.TrioReplica.new.Goals as goal

pub returns-clause-stands : goal.returns-clause-stands
returns-clause-stands c = λ inputs. opens c.args.plan.now inputs c.role_in-role.result c.role_in-role.ensures.of_plan c.role_in-role.ensures.limits c.in_ok-running.running c.in_ok-running.ensures

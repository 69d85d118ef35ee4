use Rattle.std.proofs.Common.{refl}
use Rattle.replica_node.proofs.Roles.{role_read, role_sound}
use Rattle.replica_node.proofs.replica.role_in.Goals as goal

pub returns-clause-of_plan : goal.returns-clause-of_plan
returns-clause-of_plan c = role_read c.args.plan.now _ c.task_in-task.result refl refl c.sources.ensures c.task_in-task.ensures.of_plan

pub returns-clause-sound : goal.returns-clause-sound
returns-clause-sound c = role_sound c.args.plan.now c.task_in-task.ensures.limits _ (returns-clause-of_plan c)

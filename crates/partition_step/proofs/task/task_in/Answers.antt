use Rattle.std.proofs.Common.{refl}
use Rattle.pair_machine.specs.Drain.{partition}
use Rattle.partition_step.proofs.Places.{place_read, place_sound, there_is}
use Rattle.partition_step.proofs.task.task_in.Goals as goal

pub returns-clause-of_plan : goal.returns-clause-of_plan
returns-clause-of_plan c =
    let there = there_is c.args.plan.now c.args.stage c.args.part c.requires in
    place_read c.args.plan.now c.stages-stages.result.now c.stages-stages.ensures.value (partition c.args.stage c.args.part) _ there.0 there.1 there.2
    _ refl c.get.result c.get.ensures.lookup.0 c.get.ensures.lookup.1 c.copied.ensures

pub returns-clause-sound : goal.returns-clause-sound
returns-clause-sound c = place_sound c.args.plan.now c.stages-stages.ensures.limits (partition c.args.stage c.args.part) _ (returns-clause-of_plan c)

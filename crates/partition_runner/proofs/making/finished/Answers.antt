use Rattle.std.proofs.Common.{subst}
use Rattle.plan_reader.specs.PlanView.{IsPlan, PlanView}
use Rattle.partition_runner.specs.Ready.{HaveTheirLinks}
use Rattle.partition_runner.proofs.making.finished.Goals as goal

pub finish_all-requires-clause-planned : goal.finish_all-requires-clause-planned
finish_all-requires-clause-planned g c κs within = subst IsPlan c.requires.plan c.stages-stages.ensures.limits

pub finish_all-requires-clause-links : goal.finish_all-requires-clause-links
finish_all-requires-clause-links g c κs within = subst (λ (p : PlanView). HaveTheirLinks p c.args.drafts.items) c.requires.plan c.requires.links

use Rattle.std.proofs.Common.{All, subst}
use Rattle.std.proofs.lemmas.List.Elements.{All-head}
use Rattle.plan_reader.specs.PlanView.{IsStage}
use Rattle.origin_finder.proofs.origins.+tell_stages.Goals as goal

pub pass_stage-requires-clause-stage : goal.pass_stage-requires-clause-stage
pass_stage-requires-clause-stage t c = All-head IsStage c.in-Some.stage.now c.in-Some.later.now (subst (All IsStage) c.in-Some.ensures.cases.0 c.requires.stages)

pub told_roles-requires : goal.told_roles-requires
told_roles-requires t c = All-head IsStage c.in-Some.stage.now c.in-Some.later.now (subst (All IsStage) c.in-Some.ensures.cases.0 c.requires.stages)

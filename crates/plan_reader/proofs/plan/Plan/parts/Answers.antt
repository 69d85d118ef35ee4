use Rattle.plan_reader.proofs.Parts.{sources_after}
use Rattle.plan_reader.proofs.plan.Plan.parts.Goals as goal

pub returns-clause-sources : goal.returns-clause-sources
returns-clause-sources c = rw c.stages.ensures.value (sources_after c.args.self.now c.args.stage _ c.requires.low c.requires.high)

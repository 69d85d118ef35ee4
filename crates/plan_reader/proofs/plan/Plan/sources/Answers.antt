use Rattle.std.proofs.Common.{◌<◌, arith}
use Rattle.plan_reader.proofs.Parts.{sources_of_later}
use Rattle.plan_reader.proofs.plan.Plan.sources.Goals as goal

pub returns-else-stage-eq1 : goal.returns-else-stage-eq1
returns-else-stage-eq1 c =
    let late : 1 < c.args.stage = omega (arith, c.if-stage-eq1.false) in
    rw c.stages.ensures.value (sources_of_later c.args.self.now c.args.stage _ late c.requires.high)

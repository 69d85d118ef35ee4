use Rattle.std.proofs.Common.{◌≤◌, length, arith}
use Rattle.plan_reader.proofs.Parts.{has_pair_there}
use Rattle.plan_reader.proofs.plan.Plan.has_pair.Goals as goal

pub returns : goal.returns
returns c =
    let low : 1 ≤ c.args.stage = omega (arith, c.if-stage-eq0.false) in
    let high : c.args.stage ≤ length c.args.self.now.stages = rw c.stage_count.ensures.value at c.if-stage-stage_count.false in
    rw c.parts.ensures.value (has_pair_there c.args.self.now c.args.stage c.args.part low high)

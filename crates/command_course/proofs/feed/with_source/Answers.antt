use Rattle.std.proofs.Common.{arith, ◌≡◌}
use Rattle.command_course.proofs.Feeding.{cash_not_in_plan}
use Rattle.command_course.proofs.feed.with_source.Goals as goal

pub returns-then-version-eq1-clause-stops : goal.returns-then-version-eq1-clause-stops
returns-then-version-eq1-clause-stops c =
    let one : c.args.plan.version ≡ 1 = omega (arith, c.if-version-eq1.true, c.version.ensures.value) in
    rw c.in-Some.is (λ told. cash_not_in_plan told c.in-Some.name.now c.args.plan c.refused.result one c.refused.ensures)

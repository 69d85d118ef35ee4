use Rattle.std.proofs.Common.{◌≡◌, ◌∙◌, false, subst, sym}
use Rattle.std.specs.Prelude.{◌==◌}
use Rattle.pair_machine.proofs.Tests.{nat_not}
use Rattle.command_course.specs.Steps.{StopsOf}
use Rattle.trio_command.specs.Courses.{not_for_trio_line}
use Rattle.trio_command.proofs.Ways.{goes_not, refused_here}
use Rattle.trio_command.proofs.command.text_of_plan.Goals as goal

pub returns-else-version-eq1-clause-stops : goal.returns-else-version-eq1-clause-stops
returns-else-version-eq1-clause-stops g c =
    let told = g.F.Files.told c.args.files.now in
    let other : (c.args.plan.now.version == 1) ≡ false = nat_not c.args.plan.now.version 1 (λ e. c.if-version-eq1.false (c.version.ensures.value ∙ e)) in
    subst (λ course. StopsOf told told course c.refused.result) (sym (goes_not c.args.name.now c.args.trades.now c.args.events.now c.args.plan.now other))
    (refused_here told (not_for_trio_line c.args.name.now) c.refused.result (Unit {0}) c.refused.ensures)

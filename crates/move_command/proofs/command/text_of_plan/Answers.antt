use Rattle.std.proofs.Common.{◌≡◌, ◌∙◌, false, subst, sym}
use Rattle.bucket_move.specs.ByKey.{is_by_key}
use Rattle.command_course.specs.Steps.{StopsOf}
use Rattle.command_course.proofs.Courses.{refused_here}
use Rattle.move_command.specs.Inputs.{not_by_key_line}
use Rattle.move_command.proofs.Courses.{goes_not}
use Rattle.move_command.proofs.command.text_of_plan.Goals as goal

pub returns-else-is_by_key-clause-stops : goal.returns-else-is_by_key-clause-stops
returns-else-is_by_key-clause-stops g c =
    let told = g.F.Files.told c.args.files.now in
    let other : is_by_key c.args.plan.now ≡ false = sym c.is_by_key.ensures ∙ c.if-is_by_key.false in
    subst (λ course. StopsOf told told course c.refused.result) (sym (goes_not c.args.name.now c.args.trades.now c.args.moves.now c.args.plan.now other))
    (refused_here told (not_by_key_line c.args.name.now) c.refused.result (Unit {0}) c.refused.ensures)

use Rattle.command_course.proofs.Courses.{err_on, err_passed, ok_on}
use Rattle.move_command.specs.Outcome.{move_plan}
use Rattle.move_command.proofs.command.move_text.Goals as goal

pub returns-clause-comes : goal.returns-clause-comes
returns-clause-comes g c =
    ok_on (g.F.Files.told c.args.files.now) (g.F.Files.told c.input_at.new.files) (g.F.Files.told c.text_of_plan.new.files) _ _ c.text_of_plan.result c.in_ok-it.ensures.reads.contents (c.in_ok-it.ensures.gives (move_plan c.args.plan.now c.args.trades.now c.args.moves.now)) c.text_of_plan.ensures.comes

pub returns-clause-stops : goal.returns-clause-stops
returns-clause-stops g c =
    err_on (g.F.Files.told c.args.files.now) (g.F.Files.told c.input_at.new.files) (g.F.Files.told c.text_of_plan.new.files) _ _ c.text_of_plan.result c.in_ok-it.ensures.reads.contents (c.in_ok-it.ensures.gives (move_plan c.args.plan.now c.args.trades.now c.args.moves.now)) c.text_of_plan.ensures.stops

pub returns-in_err-it-clause-stops : goal.returns-in_err-it-clause-stops
returns-in_err-it-clause-stops g c =
    err_passed _ _ c.from_residual.result c.from_residual.ensures.1 (c.in_err-it.ensures.stops (move_plan c.args.plan.now c.args.trades.now c.args.moves.now))

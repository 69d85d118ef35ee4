use Rattle.command_course.proofs.Courses.{err_on, err_passed, ok_on}
use Rattle.move_command.specs.Outcome.{move_moves}
use Rattle.move_command.proofs.command.text_of_trades.Goals as goal

pub returns-clause-comes : goal.returns-clause-comes
returns-clause-comes g c =
    ok_on (g.F.Files.told c.args.files.now) (g.F.Files.told c.input_at.new.files) (g.F.Files.told c.text_of_moves.new.files) _ _ c.text_of_moves.result c.in_ok-trades.ensures.reads.contents (c.in_ok-trades.ensures.gives (move_moves c.args.moves.now c.args.plan.now)) c.text_of_moves.ensures.comes

pub returns-clause-stops : goal.returns-clause-stops
returns-clause-stops g c =
    err_on (g.F.Files.told c.args.files.now) (g.F.Files.told c.input_at.new.files) (g.F.Files.told c.text_of_moves.new.files) _ _ c.text_of_moves.result c.in_ok-trades.ensures.reads.contents (c.in_ok-trades.ensures.gives (move_moves c.args.moves.now c.args.plan.now)) c.text_of_moves.ensures.stops

pub returns-in_err-trades-clause-stops : goal.returns-in_err-trades-clause-stops
returns-in_err-trades-clause-stops g c =
    err_passed _ _ c.from_residual.result c.from_residual.ensures.1 (c.in_err-trades.ensures.stops (move_moves c.args.moves.now c.args.plan.now))

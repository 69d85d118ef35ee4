use Rattle.trio_command.specs.Courses.{trio_plan}
use Rattle.trio_command.proofs.Ways.{err_on, ok_on}
use Rattle.command_course.proofs.Courses.{err_passed}
use Rattle.trio_command.proofs.command.text_of_trio.Goals as goal

pub returns-clause-comes : goal.returns-clause-comes
returns-clause-comes g c =
    ok_on (g.F.Files.told c.args.files.now) (g.F.Files.told c.input_at.new.files) (g.F.Files.told c.text_of_plan.new.files) _ _ c.text_of_plan.result c.in_ok-it.ensures.reads.contents (c.in_ok-it.ensures.gives (trio_plan c.args.plan.now c.args.trades.now c.args.events.now)) c.text_of_plan.ensures.comes

pub returns-clause-stops : goal.returns-clause-stops
returns-clause-stops g c =
    err_on (g.F.Files.told c.args.files.now) (g.F.Files.told c.input_at.new.files) (g.F.Files.told c.text_of_plan.new.files) _ _ c.text_of_plan.result c.in_ok-it.ensures.reads.contents (c.in_ok-it.ensures.gives (trio_plan c.args.plan.now c.args.trades.now c.args.events.now)) c.text_of_plan.ensures.stops

pub returns-in_err-it-clause-stops : goal.returns-in_err-it-clause-stops
returns-in_err-it-clause-stops g c =
    err_passed _ _ c.from_residual.result c.from_residual.ensures.1 (c.in_err-it.ensures.stops (trio_plan c.args.plan.now c.args.trades.now c.args.events.now))

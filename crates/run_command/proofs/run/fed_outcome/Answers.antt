use Rattle.command_course.specs.Course.{Runs}
use Rattle.command_course.specs.Feeds.{feed_of}
use Rattle.command_line.specs.Views.{options_in}
use Rattle.run_command.specs.Courses.{run_of}
use Rattle.run_command.proofs.Ways.{err_short_of_run, ok_came_to_run}
use Rattle.command_course.proofs.Courses.{err_passed}
use Rattle.run_command.proofs.run.fed_outcome.Goals as goal

pub returns-clause-comes : goal.returns-clause-comes
returns-clause-comes g c =
    ok_came_to_run (g.F.Files.told c.args.files.now) (g.F.Files.told c.script_at.new.files) (options_in c.args.options) c.args.is_summary (feed_of c.args.feed.now) c.in_ok-script.script c.ended.result
    c.in_ok-script.ensures.gives c.ended.ensures.ended

pub returns-clause-stops : goal.returns-clause-stops
returns-clause-stops g c =
    err_short_of_run (g.F.Files.told c.args.files.now) (g.F.Files.told c.script_at.new.files) (options_in c.args.options) c.args.is_summary (feed_of c.args.feed.now) c.in_ok-script.script c.ended.result
    c.in_ok-script.ensures.gives c.ended.ensures.want

pub returns-in_err-script-clause-stops : goal.returns-in_err-script-clause-stops
returns-in_err-script-clause-stops g c =
    err_passed _ _ c.from_residual.result c.from_residual.ensures.1 (c.in_err-script.ensures.stops (λ script. Runs (run_of (options_in c.args.options) c.args.is_summary (feed_of c.args.feed.now) script)))

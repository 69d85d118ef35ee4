use Rattle.std.proofs.Common.{option_map}
use Rattle.command_course.specs.Course.{Runs}
use Rattle.command_course.specs.Feeds.{feed_of}
use Rattle.rehearse_command.specs.Courses.{run_under}
use Rattle.rehearse_command.proofs.Ways.{err_short, ok_came}
use Rattle.command_course.proofs.Courses.{err_passed}
use Rattle.rehearse_command.proofs.command.fed_report.Goals as goal

pub returns-clause-comes : goal.returns-clause-comes
returns-clause-comes g c =
    ok_came (g.F.Files.told c.args.files.now) (g.F.Files.told c.script_at.new.files) c.args.script.now (feed_of c.args.feed.now) c.in_ok-script.script (option_map (λ n. n.now) c.args.svg) c.scripted_report.result
    c.in_ok-script.ensures.gives c.scripted_report.ensures.rehearsed

pub returns-clause-stops : goal.returns-clause-stops
returns-clause-stops g c =
    err_short (g.F.Files.told c.args.files.now) (g.F.Files.told c.script_at.new.files) c.args.script.now (feed_of c.args.feed.now) c.in_ok-script.script c.scripted_report.result
    c.in_ok-script.ensures.gives c.scripted_report.ensures.want

pub returns-in_err-script-clause-stops : goal.returns-in_err-script-clause-stops
returns-in_err-script-clause-stops g c =
    err_passed _ _ c.from_residual.result c.from_residual.ensures.1 (c.in_err-script.ensures.stops (λ orders. Runs (run_under (feed_of c.args.feed.now) orders)))

use Rattle.command_course.specs.Course.{Runs}
use Rattle.command_course.specs.Feeds.{feed_of}
use Rattle.live_top.specs.Runs.{run_with}
use Rattle.command_course.proofs.Courses.{err_passed}
use Rattle.live_top.proofs.given.scripted.Goals as goal

pub returns-clause-comes : goal.returns-clause-comes
returns-clause-comes g c = c.in_ok-script.ensures.gives (λ script. Runs (run_with (feed_of c.args.feed) script))

pub returns-in_err-script-clause-stops : goal.returns-in_err-script-clause-stops
returns-in_err-script-clause-stops g c =
    err_passed _ _ c.from_residual.result c.from_residual.ensures.1 (c.in_err-script.ensures.stops (λ script. Runs (run_with (feed_of c.args.feed) script)))

use Rattle.command_course.specs.Feeds.{feed_of}
use Rattle.look_command.specs.Courses.{draws}
use Rattle.look_command.proofs.Wants.{stopped_here}
use Rattle.command_course.proofs.Courses.{err_passed}
use Rattle.look_command.proofs.timeline.fed_timeline.Goals as goal

pub returns-in_err-all-clause-stops : goal.returns-in_err-all-clause-stops
returns-in_err-all-clause-stops g c =
    err_passed _ _ c.from_residual.result c.from_residual.ensures.1 (stopped_here (g.F.Files.told c.args.files.now) (draws c.args.events.now c.args.how c.args.only (feed_of c.args.feed.now)) c.in_err-all.field-0.0 c.in_err-all.ensures.want)

use Rattle.command_course.specs.Feeds.{feed_of}
use Rattle.look_command.specs.Reports.{reports}
use Rattle.look_command.specs.Courses.{rows_in_all, story_telling}
use Rattle.look_command.proofs.Wants.{stopped_here}
use Rattle.command_course.proofs.Courses.{err_passed}
use Rattle.look_command.proofs.story.scripted_story.Goals as goal

pub returns-in_err-all-clause-stops : goal.returns-in_err-all-clause-stops
returns-in_err-all-clause-stops g c =
    err_passed _ _ c.from_residual.result c.from_residual.ensures.1 (let feed = feed_of c.args.feed.now in
    stopped_here (g.F.Files.told c.args.files.now) (reports (story_telling c.args.json c.args.script.now (rows_in_all feed)) c.args.events.now feed) c.in_err-all.field-0.0 c.in_err-all.ensures.want)

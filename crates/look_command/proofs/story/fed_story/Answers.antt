use Rattle.std.proofs.Common.{option_map}
use Rattle.command_course.specs.Feeds.{feed_of}
use Rattle.run_command.specs.Scripts.{with_script}
use Rattle.command_course.specs.Answers.{answer_of}
use Rattle.look_command.specs.Reports.{reports}
use Rattle.look_command.specs.Courses.{rows_in_all, story_telling}
use Rattle.look_command.proofs.Ways.{err_stops, ok_gives}
use Rattle.command_course.proofs.Courses.{err_passed}
use Rattle.look_command.proofs.story.fed_story.Goals as goal

pub returns-clause-gives : goal.returns-clause-gives
returns-clause-gives g c =
    let feed = feed_of c.args.feed.now in
    ok_gives answer_of (g.F.Files.told c.args.files.now) (g.F.Files.told c.script_at.new.files) (g.F.Files.told c.scripted_story.new.files)
    (with_script (option_map (λ n. n.now) c.args.script) feed.plan) (λ orders. reports (story_telling c.args.json orders (rows_in_all feed)) c.args.events.now feed) c.in_ok-script.script c.scripted_story.result
    c.in_ok-script.ensures.reads.contents c.in_ok-script.ensures.gives c.scripted_story.ensures.gives

pub returns-clause-stops : goal.returns-clause-stops
returns-clause-stops g c =
    let feed = feed_of c.args.feed.now in
    err_stops (g.F.Files.told c.args.files.now) (g.F.Files.told c.script_at.new.files) (g.F.Files.told c.scripted_story.new.files)
    (with_script (option_map (λ n. n.now) c.args.script) feed.plan) (λ orders. reports (story_telling c.args.json orders (rows_in_all feed)) c.args.events.now feed) c.in_ok-script.script c.scripted_story.result
    c.in_ok-script.ensures.reads.contents c.in_ok-script.ensures.gives c.scripted_story.ensures.stops

pub returns-in_err-script-clause-stops : goal.returns-in_err-script-clause-stops
returns-in_err-script-clause-stops g c =
    err_passed _ _ c.from_residual.result c.from_residual.ensures.1 (λ next. c.in_err-script.ensures.stops (λ orders. reports (story_telling c.args.json orders (rows_in_all (feed_of c.args.feed.now))) c.args.events.now (feed_of c.args.feed.now) next))

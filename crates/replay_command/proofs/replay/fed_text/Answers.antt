use Rattle.command_course.specs.Feeds.{feed_of}
use Rattle.replay_command.specs.Courses.{replays, replays_file}
use Rattle.replay_command.proofs.Ways.{err_here, ok_here}
use Rattle.command_course.proofs.Courses.{err_passed}
use Rattle.replay_command.proofs.replay.fed_text.Goals as goal

pub returns-clause-comes : goal.returns-clause-comes
returns-clause-comes g c =
    ok_here (g.F.Files.told c.args.files.now) (g.F.Files.told c.input_at.new.files) (replays_file c.args.events.now (feed_of c.args.feed.now))
    (replays c.args.events.now (feed_of c.args.feed.now) c.in_ok-lines.lines) c.replayed.result (c.in_ok-lines.ensures.gives (replays c.args.events.now (feed_of c.args.feed.now))) c.replayed.ensures.text

pub returns-clause-stops : goal.returns-clause-stops
returns-clause-stops g c =
    err_here (g.F.Files.told c.args.files.now) (g.F.Files.told c.input_at.new.files) (replays_file c.args.events.now (feed_of c.args.feed.now))
    (replays c.args.events.now (feed_of c.args.feed.now) c.in_ok-lines.lines) c.replayed.result (c.in_ok-lines.ensures.gives (replays c.args.events.now (feed_of c.args.feed.now))) c.replayed.ensures.refused

pub returns-in_err-lines-clause-stops : goal.returns-in_err-lines-clause-stops
returns-in_err-lines-clause-stops g c =
    err_passed _ _ c.from_residual.result c.from_residual.ensures.1 (c.in_err-lines.ensures.stops (replays c.args.events.now (feed_of c.args.feed.now)))

use Rattle.std.proofs.Common.{option_map}
use Rattle.command_course.specs.Feeds.{feed_of}
use Rattle.replay_command.specs.Courses.{replay_course, replays_file}
use Rattle.replay_command.proofs.Ways.{err_on, ok_on}
use Rattle.command_course.proofs.Courses.{err_passed}
use Rattle.replay_command.proofs.replay.replay_text.Goals as goal

pub returns-clause-comes : goal.returns-clause-comes
returns-clause-comes g c =
    ok_on (g.F.Files.told c.args.files.now) (g.F.Files.told c.feed_at.new.files) (g.F.Files.told c.fed_text.new.files)
    (replay_course c.args.plan.now c.args.trades.now c.args.events.now (option_map (λ name. name.now) c.args.cash)) (replays_file c.args.events.now (feed_of c.in_ok-feed.feed)) c.fed_text.result
    c.in_ok-feed.ensures.reads.contents (c.in_ok-feed.ensures.gives (replays_file c.args.events.now)) c.fed_text.ensures.comes

pub returns-clause-stops : goal.returns-clause-stops
returns-clause-stops g c =
    err_on (g.F.Files.told c.args.files.now) (g.F.Files.told c.feed_at.new.files) (g.F.Files.told c.fed_text.new.files)
    (replay_course c.args.plan.now c.args.trades.now c.args.events.now (option_map (λ name. name.now) c.args.cash)) (replays_file c.args.events.now (feed_of c.in_ok-feed.feed)) c.fed_text.result
    c.in_ok-feed.ensures.reads.contents (c.in_ok-feed.ensures.gives (replays_file c.args.events.now)) c.fed_text.ensures.stops

pub returns-in_err-feed-clause-stops : goal.returns-in_err-feed-clause-stops
returns-in_err-feed-clause-stops g c =
    err_passed _ _ c.from_residual.result c.from_residual.ensures.1 (c.in_err-feed.ensures.stops (replays_file c.args.events.now))

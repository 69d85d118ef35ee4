use Rattle.std.proofs.Common.{option_map}
use Rattle.command_course.specs.Feeds.{feed_of, with_feed}
use Rattle.command_course.specs.Answers.{answer_of}
use Rattle.look_command.specs.Courses.{tells_story}
use Rattle.look_command.proofs.Ways.{err_stops, ok_gives}
use Rattle.command_course.proofs.Courses.{err_passed}
use Rattle.look_command.proofs.story.story_text.Goals as goal

pub returns-clause-gives : goal.returns-clause-gives
returns-clause-gives g c =
    ok_gives answer_of (g.F.Files.told c.args.files.now) (g.F.Files.told c.feed_at.new.files) (g.F.Files.told c.fed_story.new.files)
    (with_feed c.args.plan.now c.args.trades.now (option_map (λ n. n.now) c.args.cash)) (tells_story c.args.events.now (option_map (λ n. n.now) c.args.script) c.args.json) (feed_of c.in_ok-feed.feed) c.fed_story.result
    c.in_ok-feed.ensures.reads.contents c.in_ok-feed.ensures.gives c.fed_story.ensures.gives

pub returns-clause-stops : goal.returns-clause-stops
returns-clause-stops g c =
    err_stops (g.F.Files.told c.args.files.now) (g.F.Files.told c.feed_at.new.files) (g.F.Files.told c.fed_story.new.files)
    (with_feed c.args.plan.now c.args.trades.now (option_map (λ n. n.now) c.args.cash)) (tells_story c.args.events.now (option_map (λ n. n.now) c.args.script) c.args.json) (feed_of c.in_ok-feed.feed) c.fed_story.result
    c.in_ok-feed.ensures.reads.contents c.in_ok-feed.ensures.gives c.fed_story.ensures.stops

pub returns-in_err-feed-clause-stops : goal.returns-in_err-feed-clause-stops
returns-in_err-feed-clause-stops g c =
    err_passed _ _ c.from_residual.result c.from_residual.ensures.1 (λ next. c.in_err-feed.ensures.stops (λ feed. tells_story c.args.events.now (option_map (λ n. n.now) c.args.script) c.args.json feed next))

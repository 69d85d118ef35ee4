use Rattle.std.proofs.Common.{option_map, subst}
use Rattle.std.specs.Prelude.{IfErr, IfOk}
use Rattle.command_course.specs.Feeds.{feed_of, with_feed}
use Rattle.command_course.specs.Steps.{GivesBy, StopsBy}
use Rattle.command_course.specs.Answers.{answer_of}
use Rattle.look_command.specs.Courses.{drawing_of, draws}
use Rattle.look_command.proofs.Ways.{err_stops, ok_gives}
use Rattle.command_course.proofs.Courses.{err_passed}
use Rattle.look_command.proofs.timeline.timeline_text.Goals as goal

pub returns-clause-gives : goal.returns-clause-gives
returns-clause-gives g c =
    let fed = with_feed c.args.plan.now c.args.trades.now (option_map (λ n. n.now) c.args.cash) in
    subst (λ how. IfOk c.fed_timeline.result (λ a. GivesBy (g.F.Files.told c.args.files.now) (g.F.Files.told c.fed_timeline.new.files) (λ next. fed (λ feed. draws c.args.events.now how c.args.only feed next)) (answer_of a))) c.drawing_of.ensures
    (ok_gives answer_of (g.F.Files.told c.args.files.now) (g.F.Files.told c.feed_at.new.files) (g.F.Files.told c.fed_timeline.new.files)
    fed (draws c.args.events.now c.drawing_of.result c.args.only) (feed_of c.in_ok-feed.feed) c.fed_timeline.result
    c.in_ok-feed.ensures.reads.contents c.in_ok-feed.ensures.gives c.fed_timeline.ensures.gives)

pub returns-clause-stops : goal.returns-clause-stops
returns-clause-stops g c =
    let fed = with_feed c.args.plan.now c.args.trades.now (option_map (λ n. n.now) c.args.cash) in
    subst (λ how. IfErr c.fed_timeline.result (StopsBy (g.F.Files.told c.args.files.now) (g.F.Files.told c.fed_timeline.new.files) (λ next. fed (λ feed. draws c.args.events.now how c.args.only feed next)))) c.drawing_of.ensures
    (err_stops (g.F.Files.told c.args.files.now) (g.F.Files.told c.feed_at.new.files) (g.F.Files.told c.fed_timeline.new.files)
    fed (draws c.args.events.now c.drawing_of.result c.args.only) (feed_of c.in_ok-feed.feed) c.fed_timeline.result
    c.in_ok-feed.ensures.reads.contents c.in_ok-feed.ensures.gives c.fed_timeline.ensures.stops)

pub returns-in_err-feed-clause-stops : goal.returns-in_err-feed-clause-stops
returns-in_err-feed-clause-stops g c =
    err_passed _ _ c.from_residual.result c.from_residual.ensures.1 (λ next. c.in_err-feed.ensures.stops (λ feed. draws c.args.events.now (drawing_of c.args.svg c.args.json) c.args.only feed next))

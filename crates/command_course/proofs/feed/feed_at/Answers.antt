use Rattle.std.proofs.Common.{option_map}
use Rattle.command_course.specs.Feeds.{feed_of, with_plan, with_trades}
use Rattle.command_course.proofs.Feeding.{err_stops, ok_gives}
use Rattle.command_course.proofs.Courses.{err_passed}
use Rattle.command_course.proofs.feed.feed_at.Goals as goal

pub returns-clause-gives : goal.returns-clause-gives
returns-clause-gives g c =
    ok_gives feed_of (g.F.Files.told c.args.files.now) (g.F.Files.told c.plan_at.new.files) (g.F.Files.told c.feed_for.new.files) (with_plan c.args.plan.now (option_map (λ name. name.now) c.args.cash)) (with_trades c.args.trades.now (option_map (λ name. name.now) c.args.cash)) c.in_ok-plan.plan c.feed_for.result
    c.in_ok-plan.ensures.reads.contents c.in_ok-plan.ensures.gives c.feed_for.ensures.gives

pub returns-clause-stops : goal.returns-clause-stops
returns-clause-stops g c =
    err_stops (g.F.Files.told c.args.files.now) (g.F.Files.told c.plan_at.new.files) (g.F.Files.told c.feed_for.new.files) (with_plan c.args.plan.now (option_map (λ name. name.now) c.args.cash)) (with_trades c.args.trades.now (option_map (λ name. name.now) c.args.cash)) c.in_ok-plan.plan c.feed_for.result
    c.in_ok-plan.ensures.reads.contents c.in_ok-plan.ensures.gives c.feed_for.ensures.stops

pub returns-in_err-plan-clause-stops : goal.returns-in_err-plan-clause-stops
returns-in_err-plan-clause-stops g c =
    err_passed _ _ c.from_residual.result c.from_residual.ensures.1 (λ next. c.in_err-plan.ensures.stops (λ plan. with_trades c.args.trades.now (option_map (λ name. name.now) c.args.cash) plan next))

use Rattle.std.proofs.Common.{option_map}
use Rattle.command_course.specs.Feeds.{with_plan}
use Rattle.command_course.specs.Answers.{answer_of}
use Rattle.why_command.specs.Courses.{trades_way}
use Rattle.why_command.proofs.Ways.{err_stops, ok_gives}
use Rattle.command_course.proofs.Courses.{err_passed}
use Rattle.why_command.proofs.why.why_report.Goals as goal

pub returns-clause-gives : goal.returns-clause-gives
returns-clause-gives g c =
    ok_gives answer_of (g.F.Files.told c.args.files.now) (g.F.Files.told c.plan_at.new.files) (g.F.Files.told c.of_plan.new.files) (with_plan c.args.plan.now (option_map (λ name. name.now) c.args.cash))
    (trades_way c.args.trades.now (option_map (λ name. name.now) c.args.cash) c.args.wanted) c.in_ok-plan.plan c.of_plan.result
    c.in_ok-plan.ensures.reads.contents c.in_ok-plan.ensures.gives c.of_plan.ensures.gives

pub returns-clause-stops : goal.returns-clause-stops
returns-clause-stops g c =
    err_stops (g.F.Files.told c.args.files.now) (g.F.Files.told c.plan_at.new.files) (g.F.Files.told c.of_plan.new.files) (with_plan c.args.plan.now (option_map (λ name. name.now) c.args.cash))
    (trades_way c.args.trades.now (option_map (λ name. name.now) c.args.cash) c.args.wanted) c.in_ok-plan.plan c.of_plan.result
    c.in_ok-plan.ensures.reads.contents c.in_ok-plan.ensures.gives c.of_plan.ensures.stops

pub returns-in_err-plan-clause-stops : goal.returns-in_err-plan-clause-stops
returns-in_err-plan-clause-stops g c =
    err_passed _ _ c.from_residual.result c.from_residual.ensures.1 (λ next. c.in_err-plan.ensures.stops (λ plan. trades_way c.args.trades.now (option_map (λ name. name.now) c.args.cash) c.args.wanted plan next))

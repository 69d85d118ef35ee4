use Rattle.std.proofs.Common.{option_map}
use Rattle.command_course.specs.Feeds.{with_plan}
use Rattle.command_course.specs.Answers.{answer_of}
use Rattle.trace_command.specs.Courses.{behind_plan}
use Rattle.trace_command.proofs.Ways.{err_stops, ok_gives}
use Rattle.command_course.proofs.Courses.{err_passed}
use Rattle.trace_command.proofs.command.trace_report.Goals as goal

pub returns-clause-gives : goal.returns-clause-gives
returns-clause-gives g c =
    ok_gives answer_of (g.F.Files.told c.args.files.now) (g.F.Files.told c.plan_at.new.files) (g.F.Files.told c.lined_report.new.files) (with_plan c.args.plan.now (option_map (λ name. name.now) c.args.cash))
    (behind_plan c.args.trades.now c.args.line (option_map (λ name. name.now) c.args.cash)) c.in_ok-plan.plan c.lined_report.result c.in_ok-plan.ensures.reads.contents c.in_ok-plan.ensures.gives c.lined_report.ensures.gives

pub returns-clause-stops : goal.returns-clause-stops
returns-clause-stops g c =
    err_stops (g.F.Files.told c.args.files.now) (g.F.Files.told c.plan_at.new.files) (g.F.Files.told c.lined_report.new.files) (with_plan c.args.plan.now (option_map (λ name. name.now) c.args.cash))
    (behind_plan c.args.trades.now c.args.line (option_map (λ name. name.now) c.args.cash)) c.in_ok-plan.plan c.lined_report.result c.in_ok-plan.ensures.reads.contents c.in_ok-plan.ensures.gives c.lined_report.ensures.stops

pub returns-in_err-plan-clause-stops : goal.returns-in_err-plan-clause-stops
returns-in_err-plan-clause-stops g c =
    err_passed _ _ c.from_residual.result c.from_residual.ensures.1 (λ next. c.in_err-plan.ensures.stops (λ plan. behind_plan c.args.trades.now c.args.line (option_map (λ name. name.now) c.args.cash) plan next))

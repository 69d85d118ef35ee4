use Rattle.std.proofs.Common.{option_map}
use Rattle.command_course.specs.Answers.{answer_of}
use Rattle.look_command.specs.Trying.{tried_of, tries}
use Rattle.look_command.proofs.Ways.{err_stops, ok_gives}
use Rattle.command_course.proofs.Courses.{err_passed}
use Rattle.look_command.proofs.check.check_report.Goals as goal
use Rattle.plan_reader.specs.Limits.{max_plan_bytes}
use Rattle.look_command.specs.Check.{checks_trades, plan_told}

pub returns-clause-gives : goal.returns-clause-gives
returns-clause-gives g c =
    ok_gives answer_of (g.F.Files.told c.args.files.now) (g.F.Files.told c.tried_at.new.files) (g.F.Files.told c.with_trades.new.files)
    (tries max_plan_bytes plan_told c.args.plan.now) (checks_trades (option_map (λ n. n.now) c.args.trades) (option_map (λ n. n.now) c.args.cash) (option_map (λ n. n.now) c.args.script) c.args.all c.args.json) (tried_of c.in_ok-plan.plan) c.with_trades.result
    c.in_ok-plan.ensures.reads.contents c.in_ok-plan.ensures.gives c.with_trades.ensures.gives

pub returns-clause-stops : goal.returns-clause-stops
returns-clause-stops g c =
    err_stops (g.F.Files.told c.args.files.now) (g.F.Files.told c.tried_at.new.files) (g.F.Files.told c.with_trades.new.files)
    (tries max_plan_bytes plan_told c.args.plan.now) (checks_trades (option_map (λ n. n.now) c.args.trades) (option_map (λ n. n.now) c.args.cash) (option_map (λ n. n.now) c.args.script) c.args.all c.args.json) (tried_of c.in_ok-plan.plan) c.with_trades.result
    c.in_ok-plan.ensures.reads.contents c.in_ok-plan.ensures.gives c.with_trades.ensures.stops

pub returns-in_err-plan-clause-stops : goal.returns-in_err-plan-clause-stops
returns-in_err-plan-clause-stops g c =
    err_passed _ _ c.from_residual.result c.from_residual.ensures.1 (λ next.
    c.in_err-plan.ensures.stops (λ it. checks_trades (option_map (λ n. n.now) c.args.trades) (option_map (λ n. n.now) c.args.cash) (option_map (λ n. n.now) c.args.script) c.args.all c.args.json it next))

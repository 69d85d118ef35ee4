use Rattle.std.proofs.Common.{option_map}
use Rattle.trade_text.specs.Limits.{max_input_bytes}
use Rattle.command_course.specs.Course.{reads}
use Rattle.command_course.specs.Answers.{answer_of}
use Rattle.why_command.specs.Courses.{movements_way}
use Rattle.why_command.specs.Kept.{kept_trades_from}
use Rattle.why_command.proofs.Ways.{err_stops, ok_gives}
use Rattle.command_course.proofs.Courses.{err_passed}
use Rattle.why_command.proofs.why.of_plan.Goals as goal

pub returns-clause-gives : goal.returns-clause-gives
returns-clause-gives g c =
    ok_gives answer_of (g.F.Files.told c.args.files.now) (g.F.Files.told c.input_at.new.files) (g.F.Files.told c.with_movements.new.files) (reads max_input_bytes kept_trades_from c.args.trades.now)
    (movements_way c.args.trades.now (option_map (λ name. name.now) c.args.cash) c.args.wanted c.args.plan.now) c.in_ok-kept.kept c.with_movements.result
    c.in_ok-kept.ensures.reads.contents c.in_ok-kept.ensures.gives c.with_movements.ensures.gives

pub returns-clause-stops : goal.returns-clause-stops
returns-clause-stops g c =
    err_stops (g.F.Files.told c.args.files.now) (g.F.Files.told c.input_at.new.files) (g.F.Files.told c.with_movements.new.files) (reads max_input_bytes kept_trades_from c.args.trades.now)
    (movements_way c.args.trades.now (option_map (λ name. name.now) c.args.cash) c.args.wanted c.args.plan.now) c.in_ok-kept.kept c.with_movements.result
    c.in_ok-kept.ensures.reads.contents c.in_ok-kept.ensures.gives c.with_movements.ensures.stops

pub returns-in_err-kept-clause-stops : goal.returns-in_err-kept-clause-stops
returns-in_err-kept-clause-stops g c =
    err_passed _ _ c.from_residual.result c.from_residual.ensures.1 (λ next. c.in_err-kept.ensures.stops (λ kept. movements_way c.args.trades.now (option_map (λ name. name.now) c.args.cash) c.args.wanted c.args.plan.now kept next))

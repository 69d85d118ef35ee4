use Rattle.std.proofs.Common.{option_map}
use Rattle.command_course.specs.Course.{reads}
use Rattle.command_course.specs.Answers.{answer_of}
use Rattle.trade_text.specs.Limits.{max_input_bytes}
use Rattle.trace_command.specs.Courses.{lined_from, lined_way}
use Rattle.trace_command.proofs.Ways.{err_stops, ok_gives}
use Rattle.command_course.proofs.Courses.{err_passed}
use Rattle.trace_command.proofs.command.lined_report.Goals as goal

pub returns-clause-gives : goal.returns-clause-gives
returns-clause-gives g c =
    ok_gives answer_of (g.F.Files.told c.args.files.now) (g.F.Files.told c.input_at.new.files) (g.F.Files.told c.fed_report.new.files) (reads max_input_bytes (lined_from c.args.line) c.args.trades.now)
    (lined_way c.args.trades.now c.args.line (option_map (λ name. name.now) c.args.cash) c.args.plan) c.in_ok-lined.lined c.fed_report.result c.in_ok-lined.ensures.reads.contents c.in_ok-lined.ensures.gives c.fed_report.ensures.gives

pub returns-clause-stops : goal.returns-clause-stops
returns-clause-stops g c =
    err_stops (g.F.Files.told c.args.files.now) (g.F.Files.told c.input_at.new.files) (g.F.Files.told c.fed_report.new.files) (reads max_input_bytes (lined_from c.args.line) c.args.trades.now)
    (lined_way c.args.trades.now c.args.line (option_map (λ name. name.now) c.args.cash) c.args.plan) c.in_ok-lined.lined c.fed_report.result c.in_ok-lined.ensures.reads.contents c.in_ok-lined.ensures.gives c.fed_report.ensures.stops

pub returns-in_err-lined-clause-stops : goal.returns-in_err-lined-clause-stops
returns-in_err-lined-clause-stops g c =
    err_passed _ _ c.from_residual.result c.from_residual.ensures.1 (λ next. c.in_err-lined.ensures.stops (λ lined. lined_way c.args.trades.now c.args.line (option_map (λ name. name.now) c.args.cash) c.args.plan lined next))

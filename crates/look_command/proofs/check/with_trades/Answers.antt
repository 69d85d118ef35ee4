use Rattle.std.proofs.Common.{option_map}
use Rattle.command_course.specs.Answers.{answer_of}
use Rattle.look_command.specs.Trying.{named_of, tried_of, tries_named}
use Rattle.look_command.proofs.Ways.{err_stops, ok_gives}
use Rattle.command_course.proofs.Courses.{err_passed}
use Rattle.look_command.proofs.check.with_trades.Goals as goal
use Rattle.trade_text.specs.Limits.{max_input_bytes}
use Rattle.look_command.specs.Check.{checks_cash, trades_told}

pub returns-clause-gives : goal.returns-clause-gives
returns-clause-gives g c =
    ok_gives answer_of (g.F.Files.told c.args.files.now) (g.F.Files.told c.tried_if_named.new.files) (g.F.Files.told c.with_cash.new.files)
    (tries_named max_input_bytes (trades_told c.args.all) (option_map (λ n. n.now) c.args.trades)) (checks_cash (option_map (λ n. n.now) c.args.cash) (option_map (λ n. n.now) c.args.script) c.args.all c.args.json (tried_of c.args.plan)) (named_of c.in_ok-trades.trades) c.with_cash.result
    c.in_ok-trades.ensures.reads.contents c.in_ok-trades.ensures.gives c.with_cash.ensures.gives

pub returns-clause-stops : goal.returns-clause-stops
returns-clause-stops g c =
    err_stops (g.F.Files.told c.args.files.now) (g.F.Files.told c.tried_if_named.new.files) (g.F.Files.told c.with_cash.new.files)
    (tries_named max_input_bytes (trades_told c.args.all) (option_map (λ n. n.now) c.args.trades)) (checks_cash (option_map (λ n. n.now) c.args.cash) (option_map (λ n. n.now) c.args.script) c.args.all c.args.json (tried_of c.args.plan)) (named_of c.in_ok-trades.trades) c.with_cash.result
    c.in_ok-trades.ensures.reads.contents c.in_ok-trades.ensures.gives c.with_cash.ensures.stops

pub returns-in_err-trades-clause-stops : goal.returns-in_err-trades-clause-stops
returns-in_err-trades-clause-stops g c =
    err_passed _ _ c.from_residual.result c.from_residual.ensures.1 (λ next.
    c.in_err-trades.ensures.stops (λ them. checks_cash (option_map (λ n. n.now) c.args.cash) (option_map (λ n. n.now) c.args.script) c.args.all c.args.json (tried_of c.args.plan) them next))

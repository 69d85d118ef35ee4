use Rattle.std.proofs.Common.{option_map}
use Rattle.command_course.specs.Feeds.{feed_of, with_movements}
use Rattle.trade_text.specs.Limits.{max_input_bytes}
use Rattle.command_course.specs.Course.{reads}
use Rattle.command_course.specs.Inputs.{trades_from}
use Rattle.command_course.proofs.Feeding.{err_stops, ok_gives}
use Rattle.command_course.proofs.Courses.{err_passed}
use Rattle.command_course.proofs.feed.feed_for.Goals as goal

pub returns-clause-gives : goal.returns-clause-gives
returns-clause-gives g c =
    ok_gives feed_of (g.F.Files.told c.args.files.now) (g.F.Files.told c.input_at.new.files) (g.F.Files.told c.movements_at.new.files) (reads max_input_bytes trades_from c.args.trades.now) (with_movements (option_map (λ name. name.now) c.args.cash) c.args.plan) c.in_ok-trades.trades c.movements_at.result
    c.in_ok-trades.ensures.reads.contents c.in_ok-trades.ensures.gives c.movements_at.ensures.gives

pub returns-clause-stops : goal.returns-clause-stops
returns-clause-stops g c =
    err_stops (g.F.Files.told c.args.files.now) (g.F.Files.told c.input_at.new.files) (g.F.Files.told c.movements_at.new.files) (reads max_input_bytes trades_from c.args.trades.now) (with_movements (option_map (λ name. name.now) c.args.cash) c.args.plan) c.in_ok-trades.trades c.movements_at.result
    c.in_ok-trades.ensures.reads.contents c.in_ok-trades.ensures.gives c.movements_at.ensures.stops

pub returns-in_err-trades-clause-stops : goal.returns-in_err-trades-clause-stops
returns-in_err-trades-clause-stops g c =
    err_passed _ _ c.from_residual.result c.from_residual.ensures.1 (λ next. c.in_err-trades.ensures.stops (λ trades. with_movements (option_map (λ name. name.now) c.args.cash) c.args.plan trades next))

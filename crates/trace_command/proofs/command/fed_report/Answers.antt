use Rattle.std.proofs.Common.{◌≡◌, ◌∙◌, List, Option, ap, option_map, subst}
use Rattle.std.specs.Prelude.{IfOk}
use Rattle.tuple_edge.specs.declared.row.Row.{Row}
use Rattle.command_course.specs.Feeds.{feed_of, with_movements}
use Rattle.command_course.specs.Answers.{AnswerView, answer, answer_of}
use Rattle.command_course.specs.declared.answer.Ending.TheVariants.{Done}
use Rattle.trade_line.specs.Order.{spot_at}
use Rattle.trade_line.specs.declared.order.Spot.{Spot}
use Rattle.trace_command.specs.Courses.{traced}
use Rattle.trace_command.proofs.Ways.{err_short_by, ok_gives_value}
use Rattle.command_course.proofs.Courses.{err_passed}
use Rattle.trace_command.proofs.command.fed_report.Goals as goal

pub returns-clause-gives : goal.returns-clause-gives
returns-clause-gives g c =
    ok_gives_value answer_of (g.F.Files.told c.args.files.now) (g.F.Files.told c.movements_at.new.files) (with_movements (option_map (λ name. name.now) c.args.cash) c.args.plan c.args.lined.trades)
    (λ feed. answer Done (traced c.args.name.now c.args.line (spot_at c.args.lined.trades.rows c.args.lined.place) feed)) (feed_of c.in_ok-feed.feed) c.traced.result c.in_ok-feed.ensures.gives
    (subst (λ (spot : Option Spot). IfOk c.traced.result (λ it. answer_of it ≡ answer Done (traced c.args.name.now c.args.line spot (feed_of c.in_ok-feed.feed))))
    (c.spot_at-spot.ensures ∙ ap (λ (rs : List Row). spot_at rs c.args.lined.place) c.rows.ensures.rows) c.traced.ensures.answer)

pub returns-clause-stops : goal.returns-clause-stops
returns-clause-stops g c =
    err_short_by {B = AnswerView} (g.F.Files.told c.args.files.now) (g.F.Files.told c.movements_at.new.files) (with_movements (option_map (λ name. name.now) c.args.cash) c.args.plan c.args.lined.trades)
    (λ feed next. next (answer Done (traced c.args.name.now c.args.line (spot_at c.args.lined.trades.rows c.args.lined.place) feed))) (feed_of c.in_ok-feed.feed) c.traced.result c.in_ok-feed.ensures.gives c.traced.ensures.want

pub returns-in_err-feed-clause-stops : goal.returns-in_err-feed-clause-stops
returns-in_err-feed-clause-stops g c =
    err_passed _ _ c.from_residual.result c.from_residual.ensures.1 (λ next. c.in_err-feed.ensures.stops (λ feed. next (answer Done (traced c.args.name.now c.args.line (spot_at c.args.lined.trades.rows c.args.lined.place) feed))))

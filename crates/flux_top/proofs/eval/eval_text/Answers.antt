use Rattle.std.proofs.Common.{option_map}
use Rattle.command_course.specs.Feeds.{feed_of}
use Rattle.pair_machine.specs.Output.{output}
use Rattle.trade_text.specs.Text.{text}
use Rattle.flux_top.specs.Outcome.{eval_course, writes_output}
use Rattle.flux_top.proofs.Courses.{err_short, ok_came}
use Rattle.command_course.proofs.Courses.{err_passed}
use Rattle.flux_top.proofs.eval.eval_text.Goals as goal

pub returns-clause-comes : goal.returns-clause-comes
returns-clause-comes g c =
    let feed = feed_of c.in_ok-feed.feed in
    ok_came (g.F.Files.told c.args.files.now) (g.F.Files.told c.feed_at.new.files) (eval_course c.args.plan.now c.args.trades.now (option_map (λ name. name.now) c.args.cash))
    (text feed.symbols (output feed.plan feed.inputs)) c.written.result (c.in_ok-feed.ensures.gives writes_output) c.written.ensures.text

pub returns-clause-stops : goal.returns-clause-stops
returns-clause-stops g c =
    err_short (g.F.Files.told c.args.files.now) (g.F.Files.told c.feed_at.new.files) (eval_course c.args.plan.now c.args.trades.now (option_map (λ name. name.now) c.args.cash))
    (writes_output (feed_of c.in_ok-feed.feed)) c.written.result (c.in_ok-feed.ensures.gives writes_output) c.written.ensures.want

pub returns-in_err-feed-clause-stops : goal.returns-in_err-feed-clause-stops
returns-in_err-feed-clause-stops g c =
    err_passed _ _ c.from_residual.result c.from_residual.ensures.1 (c.in_err-feed.ensures.stops writes_output)

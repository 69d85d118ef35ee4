use Rattle.std.proofs.Common.{option_map}
use Rattle.command_course.specs.Feeds.{feed_of, with_feed}
use Rattle.rehearse_command.specs.Courses.{rehearses}
use Rattle.rehearse_command.proofs.Ways.{err_on, ok_on}
use Rattle.command_course.proofs.Courses.{err_passed}
use Rattle.rehearse_command.proofs.command.rehearse_report.Goals as goal

pub returns-clause-comes : goal.returns-clause-comes
returns-clause-comes g c =
    ok_on (g.F.Files.told c.args.files.now) (g.F.Files.told c.feed_at.new.files) (g.F.Files.told c.fed_report.new.files)
    (with_feed c.args.plan.now c.args.trades.now (option_map (λ n. n.now) c.args.cash)) (rehearses c.args.script.now) (feed_of c.in_ok-feed.feed) (option_map (λ n. n.now) c.args.svg) c.fed_report.result
    c.in_ok-feed.ensures.reads.contents c.in_ok-feed.ensures.gives c.fed_report.ensures.comes

pub returns-clause-stops : goal.returns-clause-stops
returns-clause-stops g c =
    err_on (g.F.Files.told c.args.files.now) (g.F.Files.told c.feed_at.new.files) (g.F.Files.told c.fed_report.new.files)
    (with_feed c.args.plan.now c.args.trades.now (option_map (λ n. n.now) c.args.cash)) (rehearses c.args.script.now) (feed_of c.in_ok-feed.feed) c.fed_report.result
    c.in_ok-feed.ensures.reads.contents c.in_ok-feed.ensures.gives c.fed_report.ensures.stops

pub returns-in_err-feed-clause-stops : goal.returns-in_err-feed-clause-stops
returns-in_err-feed-clause-stops g c =
    err_passed _ _ c.from_residual.result c.from_residual.ensures.1 (c.in_err-feed.ensures.stops (rehearses c.args.script.now))

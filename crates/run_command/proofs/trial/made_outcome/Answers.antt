use Rattle.std.proofs.Common.{true}
use Rattle.command_course.specs.Feeds.{feed_of, with_movements}
use Rattle.command_line.specs.Views.{options_in, text_in}
use Rattle.run_command.specs.Courses.{runs}
use Rattle.run_command.proofs.Ways.{err_run_on, ok_run_on}
use Rattle.command_course.proofs.Courses.{err_passed}
use Rattle.run_command.proofs.trial.made_outcome.Goals as goal

pub returns-clause-comes : goal.returns-clause-comes
returns-clause-comes g c =
    ok_run_on (g.F.Files.told c.args.files.now) (g.F.Files.told c.movements_at.new.files) (g.F.Files.told c.fed_outcome.new.files)
    (with_movements (text_in c.args.options.cash) c.args.plan c.args.trades) (runs (options_in c.args.options) true) (feed_of c.in_ok-feed.feed) c.fed_outcome.result
    c.in_ok-feed.ensures.reads.contents c.in_ok-feed.ensures.gives c.fed_outcome.ensures.comes

pub returns-clause-stops : goal.returns-clause-stops
returns-clause-stops g c =
    err_run_on (g.F.Files.told c.args.files.now) (g.F.Files.told c.movements_at.new.files) (g.F.Files.told c.fed_outcome.new.files)
    (with_movements (text_in c.args.options.cash) c.args.plan c.args.trades) (runs (options_in c.args.options) true) (feed_of c.in_ok-feed.feed) c.fed_outcome.result
    c.in_ok-feed.ensures.reads.contents c.in_ok-feed.ensures.gives c.fed_outcome.ensures.stops

pub returns-in_err-feed-clause-stops : goal.returns-in_err-feed-clause-stops
returns-in_err-feed-clause-stops g c =
    err_passed _ _ c.from_residual.result c.from_residual.ensures.1 (c.in_err-feed.ensures.stops (runs (options_in c.args.options) true))

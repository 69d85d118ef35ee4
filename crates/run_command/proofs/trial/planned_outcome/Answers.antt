use Rattle.std.proofs.Common.{refl, true}
use Rattle.command_course.specs.Course.{Between}
use Rattle.command_course.specs.Feeds.{with_movements}
use Rattle.command_course.proofs.Courses.{came_here, err_passed}
use Rattle.command_line.specs.Views.{options_in}
use Rattle.run_command.specs.Courses.{runs, trial_with}
use Rattle.run_command.proofs.Ways.{err_made, ok_made}
use Rattle.run_command.proofs.trial.planned_outcome.Goals as goal

pub returns-clause-comes : goal.returns-clause-comes
returns-clause-comes g c =
    ok_made (g.F.Files.told c.args.files.now) (g.F.Files.told c.made_outcome.new.files) c.args.start c.args.count c.in_ok-trades.trades
    (λ trades. with_movements (options_in c.args.options).cash c.args.plan trades (runs (options_in c.args.options) true)) c.made_outcome.result c.in_ok-trades.ensures.value c.made_outcome.ensures.comes

pub returns-clause-stops : goal.returns-clause-stops
returns-clause-stops g c =
    err_made (g.F.Files.told c.args.files.now) (g.F.Files.told c.made_outcome.new.files) c.args.start c.args.count c.in_ok-trades.trades
    (λ trades. with_movements (options_in c.args.options).cash c.args.plan trades (runs (options_in c.args.options) true)) c.made_outcome.result c.in_ok-trades.ensures.value c.made_outcome.ensures.stops

pub returns-in_err-trades-clause-stops : goal.returns-in_err-trades-clause-stops
returns-in_err-trades-clause-stops g c =
    let course = trial_with c.args.start c.args.count (options_in c.args.options) c.args.plan in
    err_passed _ _ c.from_residual.result c.from_residual.ensures.1 (Between course (came_here (g.F.Files.told c.args.files.now) course course refl))

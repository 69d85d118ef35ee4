use Rattle.command_course.specs.Feeds.{with_plan}
use Rattle.command_line.specs.Views.{options_in, text_in}
use Rattle.run_command.specs.Courses.{trial_with}
use Rattle.run_command.proofs.Ways.{err_run_on, ok_run_on}
use Rattle.command_course.proofs.Courses.{err_passed}
use Rattle.run_command.proofs.trial.trial_outcome.Goals as goal

pub returns-clause-comes : goal.returns-clause-comes
returns-clause-comes g c =
    ok_run_on (g.F.Files.told c.args.files.now) (g.F.Files.told c.plan_at.new.files) (g.F.Files.told c.planned_outcome.new.files)
    (with_plan c.args.plan.now (text_in c.args.options.cash)) (trial_with c.args.start c.args.count (options_in c.args.options)) c.in_ok-plan.plan c.planned_outcome.result
    c.in_ok-plan.ensures.reads.contents c.in_ok-plan.ensures.gives c.planned_outcome.ensures.comes

pub returns-clause-stops : goal.returns-clause-stops
returns-clause-stops g c =
    err_run_on (g.F.Files.told c.args.files.now) (g.F.Files.told c.plan_at.new.files) (g.F.Files.told c.planned_outcome.new.files)
    (with_plan c.args.plan.now (text_in c.args.options.cash)) (trial_with c.args.start c.args.count (options_in c.args.options)) c.in_ok-plan.plan c.planned_outcome.result
    c.in_ok-plan.ensures.reads.contents c.in_ok-plan.ensures.gives c.planned_outcome.ensures.stops

pub returns-in_err-plan-clause-stops : goal.returns-in_err-plan-clause-stops
returns-in_err-plan-clause-stops g c =
    err_passed _ _ c.from_residual.result c.from_residual.ensures.1 (c.in_err-plan.ensures.stops (trial_with c.args.start c.args.count (options_in c.args.options)))

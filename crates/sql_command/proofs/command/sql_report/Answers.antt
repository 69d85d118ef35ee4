use Rattle.plan_reader.specs.Limits.{max_plan_bytes}
use Rattle.plan_sql.specs.Query.{sql_text}
use Rattle.command_course.specs.Course.{reads}
use Rattle.command_course.specs.Inputs.{plan_from}
use Rattle.command_course.specs.Answers.{AnswerView, answer, answer_of}
use Rattle.command_course.specs.declared.answer.Ending.TheVariants.{Done}
use Rattle.sql_command.proofs.Ways.{err_short_by, ok_gives_value}
use Rattle.command_course.proofs.Courses.{err_passed}
use Rattle.sql_command.proofs.command.sql_report.Goals as goal

pub returns-clause-gives : goal.returns-clause-gives
returns-clause-gives g c =
    ok_gives_value answer_of (g.F.Files.told c.args.files.now) (g.F.Files.told c.input_at.new.files)
    (reads max_plan_bytes plan_from c.args.plan.now) (λ it. answer Done (sql_text it)) c.in_ok-plan.plan c.queried.result
    c.in_ok-plan.ensures.gives c.queried.ensures.answer

pub returns-clause-stops : goal.returns-clause-stops
returns-clause-stops g c =
    err_short_by {B = AnswerView} (g.F.Files.told c.args.files.now) (g.F.Files.told c.input_at.new.files)
    (reads max_plan_bytes plan_from c.args.plan.now) (λ it next. next (answer Done (sql_text it))) c.in_ok-plan.plan c.queried.result
    c.in_ok-plan.ensures.gives c.queried.ensures.want

pub returns-in_err-plan-clause-stops : goal.returns-in_err-plan-clause-stops
returns-in_err-plan-clause-stops g c =
    err_passed _ _ c.from_residual.result c.from_residual.ensures.1 (λ next. c.in_err-plan.ensures.stops (λ it. next (answer Done (sql_text it))))

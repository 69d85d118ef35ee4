-- The course of `sql`.
use Rattle.std.specs.Prelude.{ℕ, List}
use Rattle.plan_reader.specs.Limits.{max_plan_bytes}
use Rattle.plan_sql.specs.Query.{sql_text}
use Rattle.command_course.specs.Course.{Way, reads}
use Rattle.command_course.specs.Inputs.{plan_from}
use Rattle.command_course.specs.Answers.{AnswerView, answer}
use Rattle.command_course.specs.declared.answer.Ending.TheVariants.{Done}

-- `sql`: the plan is read, and nothing else, and its query is written
abbrev pub sql_way : (plan : List ℕ) → Way AnswerView
sql_way plan next = reads max_plan_bytes plan_from plan (λ it. next (answer Done (sql_text it)))

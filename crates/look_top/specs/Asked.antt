-- What words of `flux_look` ask for.
use Rattle.std.specs.Prelude.{ℕ, List, Option, option_map}
use Rattle.command_course.specs.Course.{Course, Way}
use Rattle.flux_top.specs.Programs as program
use Rattle.look_command.specs.Check.{check_way}
use Rattle.look_command.specs.Courses.{story_way, timeline_way}
use Rattle.command_course.specs.Answers.{AnswerView}
use Rattle.look_words.specs.Forms.{Check, Rehearse, Request, Sift, Sql, Story, Timeline, Trace, Why, form}
use Rattle.rehearse_command.specs.Courses.{rehearse_course}
use Rattle.sift_command.specs.Courses.{sift_way}
use Rattle.sql_command.specs.Courses.{sql_way}
use Rattle.trace_command.specs.Courses.{trace_way}
use Rattle.why_command.specs.Courses.{why_way}

-- a way by which the bytes of files come to one answer; or a rehearsal: a course to a run, and the file for the run's picture, if one is named
pub data LookTask : Type 0 where
  Answers : (way : Way AnswerView) → LookTask
  Rehearses : (course : Course) (picture : Option (List ℕ)) → LookTask

-- what the command of a request is to do
abbrev pub task_of : Request → LookTask
task_of (Check plan trades cash script all json) = Answers (check_way plan trades cash script all json)
task_of (Story plan trades events cash script json) = Answers (story_way plan trades events cash script json)
task_of (Timeline plan trades events cash svg json only) = Answers (timeline_way plan trades events cash svg only json)
task_of (Rehearse plan trades script cash threads turns picture) = Rehearses (rehearse_course plan trades script cash) picture
task_of (Trace plan trades line cash) = Answers (trace_way plan trades line cash)
task_of (Why plan trades number cash all check) = Answers (why_way plan trades cash (record { number = number; all = all; check = check }))
task_of (Sift trades rejects) = Answers (sift_way trades rejects)
task_of (Sql plan) = Answers (sql_way plan)

-- how the files of a task are read, whatever comes behind its answer; behind a rehearsal's course comes its run
abbrev pub way_in : LookTask → Way AnswerView
way_in (Answers way) next = way next
way_in (Rehearses course picture) next = course

-- the task that words ask for, if they have a form
unfoldable pub asked : List (List ℕ) → Option LookTask
asked words = option_map task_of (form words)

-- words ask for a task, and something holds of it
abbrev pub AsksFor : List (List ℕ) → (LookTask → Type 0) → Type 0
AsksFor words = program.AsksFor (asked words)

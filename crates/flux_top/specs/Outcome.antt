-- What each command does with its files.
use Rattle.std.specs.Prelude.{ℕ, List, Option, String, map, option_map, string_bytes}
use Rattle.std.specs.declared.alloc.Global.{Global}
use Rattle.command_line.specs.Forms.{Eval, Make, Move, Replay, Request, Run, Trial, Trio, form}
use Rattle.trade_text.specs.Text.{text}
use Rattle.pair_machine.specs.Output.{output}
use Rattle.trade_maker.specs.MadeText.{made_text}
use Rattle.command_course.specs.Course.{Came, Course, Writes}
use Rattle.command_course.specs.FeedView.{FeedView}
use Rattle.command_course.specs.Feeds.{with_feed}
use Rattle.flux_outside.specs.Told.{FilesTold}
use Rattle.move_command.specs.Outcome.{move_course}
use Rattle.replay_command.specs.Courses.{replay_course}
use Rattle.run_command.specs.Courses.{run_course, trial_course}
use Rattle.run_command.specs.Endings.{ending_of}
use Rattle.run_command.specs.declared.outcome.Outcome.{Outcome}
use Rattle.trio_command.specs.Courses.{trio_course}
use Rattle.flux_top.specs.Ends.{EndsBy}
use Rattle.flux_top.specs.Programs as program

-- the text of the output of a plan
abbrev pub writes_output : FeedView → Course
writes_output feed = Writes (text feed.symbols (output feed.plan feed.inputs))

-- plan, trades and movements are read, and the text of the output is written
abbrev pub eval_course : (plan trades : List ℕ) → Option (List ℕ) → Course
eval_course plan trades cash = with_feed plan trades cash writes_output

-- The course of a command.
abbrev pub course_of : Request → Course
course_of (Eval plan trades cash) = eval_course plan trades cash
course_of (Run plan trades options) = run_course plan trades options
course_of (Replay plan trades events cash) = replay_course plan trades events cash
course_of (Make start count) = Writes (made_text start count)
course_of (Trial plan start count options) = trial_course plan start count options
course_of (Move plan trades moves) = move_course plan trades moves
course_of (Trio plan trades events) = trio_course plan trades events

-- words as texts
abbrev pub texts : List (String Global) → List (List ℕ)
texts words = map string_bytes words

-- the course that words ask for, if they have a form
abbrev pub asked : List (List ℕ) → Option Course
asked words = option_map course_of (form words)

-- words ask for a course, and something holds of it
abbrev pub AsksFor : List (List ℕ) → (Course → Type 0) → Type 0
AsksFor words = program.AsksFor (asked words)

-- ---- of the steps of a command

-- a course came to its end, which the outcome says
pub record CameToEnd (before after : FilesTold) (course : Course) (outcome : Outcome) : Type 0 where
  pub there : Course
  pub came : Came before after course there
  pub ends : EndsBy outcome.drained there (ending_of outcome)

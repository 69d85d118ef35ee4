-- How a run's events are reported: they are read and applied to the opening, and something is told of them and of the state that they reach.
use Rattle.std.specs.Prelude.{ℕ, List, Result, Ok, Err}
use Rattle.pair_machine.specs.Machine.{State, opening}
use Rattle.run_journal.specs.Limits.{max_events_bytes}
use Rattle.run_journal.specs.declared.lined.Lined.{Lined}
use Rattle.flux_core.specs.CoreView.{CoreView}
use Rattle.flux_core.specs.Follows.{IsStopped}
use Rattle.command_course.specs.Course.{Refuses, Way, reads}
use Rattle.command_course.specs.FeedView.{FeedView}
use Rattle.command_course.specs.Lines.{line_of}
use Rattle.replay_command.specs.Courses.{events_from, flow_for}
use Rattle.replay_command.specs.Replaying.{RefusedAt, refused_text, replayed}
use Rattle.command_course.specs.Answers.{AnswerView, answer}
use Rattle.command_course.specs.declared.answer.Ending.TheVariants.{Done}
use Rattle.look_command.specs.declared.report.ReportError.{ReportError}
use Rattle.look_command.specs.declared.report.ReportError.TheVariants as error

-- the text of what a plan is fed with, of events, and of the state that they reach
abbrev pub Telling : Type 0
Telling = FeedView → List Lined → State → List ℕ

-- what is told of the state that was reached, or the line of the event of a file that was refused
abbrev pub tells : (events : List ℕ) → (State → List ℕ) → Result State RefusedAt → Way AnswerView
tells events text (Ok s) next = next (answer Done (text s))
tells events text (Err refused) next = Refuses (line_of events (refused_text refused))

-- the events of a file are applied to the opening, and something is told of them
abbrev pub tells_lines : Telling → (events : List ℕ) → FeedView → List Lined → Way AnswerView
tells_lines tell events feed lines = tells events (tell feed lines) (replayed (flow_for feed) lines opening)

-- the events are read, once all other inputs are there
abbrev pub reports : Telling → (events : List ℕ) → FeedView → Way AnswerView
reports tell events feed next = reads max_events_bytes (events_from feed.plan) events (λ lines. tells_lines tell events feed lines next)

-- ---- as the code says it

-- why a report ended early: at an event that is no step, those before it applied, or for want of memory
abbrev pub HasEnded : CoreView → CoreView → List Lined → ReportError → Type 0
HasEnded old new lines (error.Stopped stop) = IsStopped old new lines stop
HasEnded old new lines error.OutOfMemory = Unit {0}

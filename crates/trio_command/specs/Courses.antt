-- The course of `trio`: plan, trades and events are read, each checked before the next one; then the events are applied to the opening, and what is left is drained.
use Rattle.std.specs.Prelude.{ℕ, List, [], ◌==◌, Result, Ok, Err, codes, if◌then◌else◌}
use Rattle.plan_reader.specs.Limits.{max_plan_bytes}
use Rattle.plan_reader.specs.PlanView.{PlanView}
use Rattle.trade_text.specs.Limits.{max_input_bytes}
use Rattle.trade_text.specs.TradesView.{TradesView}
use Rattle.run_journal.specs.Limits.{max_events_bytes}
use Rattle.run_journal.specs.Messages.{events_fault}
use Rattle.command_course.specs.Course.{Course, Reading, Refuses, Writes, reads}
use Rattle.command_course.specs.FeedView.{FeedView}
use Rattle.command_course.specs.Feeds.{fed}
use Rattle.command_course.specs.Inputs.{plan_from, trades_from}
use Rattle.command_course.specs.Lines.{line_of, or_line}
use Rattle.trio_machine.specs.Flow.{trio_flow}
use Rattle.trio_machine.specs.Machine.{State, opening}
use Rattle.trio_text.specs.Events.{trio_events_of}
use Rattle.trio_text.specs.declared.lined.TrioLined.{TrioLined}
use Rattle.trio_command.specs.Replaying.{RefusedAt, refused_text, replayed}
use Rattle.trio_command.specs.Text.{trio_text}

-- the events that a file with these bytes says to a plan
abbrev pub events_from : PlanView → List ℕ → List ℕ → Reading (List TrioLined)
events_from plan name bytes = or_line events_fault name (trio_events_of plan bytes)

-- the text of the state that was reached, or the line of the event that was refused
abbrev pub writes_text : List ℕ → FeedView → Result State RefusedAt → Course
writes_text events feed (Ok s) = Writes (trio_text feed.plan feed.inputs feed.symbols s)
writes_text events feed (Err refused) = Refuses (line_of events (refused_text refused))

-- the events of a file are applied to the opening
abbrev pub goes_along : List ℕ → FeedView → List TrioLined → Course
goes_along events feed lines = writes_text events feed (replayed (trio_flow feed.plan feed.inputs) lines opening)

-- the events are read last
abbrev pub trio_events : List ℕ → PlanView → TradesView → Course
trio_events events plan trades = reads max_events_bytes (events_from plan) events (goes_along events (fed plan trades []))

-- before the events come the trades
abbrev pub trio_trades : (trades events : List ℕ) → PlanView → Course
trio_trades trades events plan = reads max_input_bytes trades_from trades (trio_events events plan)

-- what is said of a plan with a second source
abbrev pub not_for_trio_line : List ℕ → List ℕ
not_for_trio_line name = line_of name (codes "not for trio")

-- A plan of version 2 is refused before the trades are read.
abbrev pub trio_plan : (plan trades events : List ℕ) → PlanView → Course
trio_plan plan trades events it = if it.version == 1 then trio_trades trades events it else Refuses (not_for_trio_line plan)

-- the course of `trio`: the plan is read first
abbrev pub trio_course : (plan trades events : List ℕ) → Course
trio_course plan trades events = reads max_plan_bytes plan_from plan (trio_plan plan trades events)

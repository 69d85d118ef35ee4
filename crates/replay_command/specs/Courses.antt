-- The course of `replay`: plan, trades, movements and events are read, each checked before the next one; then the events are applied to the opening.
use Rattle.std.specs.Prelude.{ℕ, List, Option, Result, Ok, Err}
use Rattle.tuple_edge.specs.declared.node.NodeId.TheVariants as node
use Rattle.plan_reader.specs.PlanView.{PlanView}
use Rattle.pair_machine.specs.CountLaws.{output_first}
use Rattle.pair_machine.specs.Counts.{flow_of}
use Rattle.pair_machine.specs.Flow.{Flow}
use Rattle.pair_machine.specs.Machine.{State, egress_in, opening}
use Rattle.run_journal.specs.Events.{events_of}
use Rattle.run_journal.specs.Limits.{max_events_bytes}
use Rattle.run_journal.specs.Messages.{events_fault}
use Rattle.run_journal.specs.declared.lined.Lined.{Lined}
use Rattle.command_course.specs.Course.{Course, Reading, Refuses, Writes, reads}
use Rattle.command_course.specs.FeedView.{FeedView}
use Rattle.command_course.specs.Feeds.{with_feed}
use Rattle.command_course.specs.Lines.{line_of, or_line}
use Rattle.state_text.specs.StateText.{state_text}
use Rattle.replay_command.specs.Replaying.{RefusedAt, refused_text, replayed}

-- the events that a file with these bytes says to a plan
abbrev pub events_from : PlanView → List ℕ → List ℕ → Reading (List Lined)
events_from plan name bytes = or_line events_fault name (events_of plan bytes)

-- the numbers of a plan, with the inputs that were read for it
abbrev pub flow_for : FeedView → Flow
flow_for feed = flow_of feed.plan feed.inputs

-- the text of a state that a plan reached with its inputs
abbrev pub text_in : FeedView → State → List ℕ
text_in feed s = state_text (flow_for feed) s feed.symbols (output_first feed.plan feed.inputs (egress_in (s.nodes node.Egress)).count)

-- the text of the state that was reached, or the line of the event that was refused
abbrev pub writes_state : List ℕ → FeedView → Result State RefusedAt → Course
writes_state events feed (Ok s) = Writes (text_in feed s)
writes_state events feed (Err refused) = Refuses (line_of events (refused_text refused))

-- the events of a file are applied to the opening
abbrev pub replays : List ℕ → FeedView → List Lined → Course
replays events feed lines = writes_state events feed (replayed (flow_for feed) lines opening)

-- the events of a file are read, and then replayed
abbrev pub replays_file : List ℕ → FeedView → Course
replays_file events feed = reads max_events_bytes (events_from feed.plan) events (replays events feed)

-- the course of `replay`
abbrev pub replay_course : (plan trades events : List ℕ) → Option (List ℕ) → Course
replay_course plan trades events cash = with_feed plan trades cash (replays_file events)

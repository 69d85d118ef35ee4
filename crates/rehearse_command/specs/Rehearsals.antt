-- How a rehearsal ends: what is written of the run, the picture that is saved, and with which status.
use Rattle.std.specs.Prelude.{ℕ, ◌≡◌, Bool, false, List, Option, None, Result, Ok, Err, if◌then◌else◌, length, option_map}
use Rattle.tuple_edge.specs.Input.{Input}
use Rattle.tuple_edge.specs.declared.event.Drained.{Drained}
use Rattle.tuple_edge.specs.declared.event.Drained.TheVariants as drained
use Rattle.tuple_edge.specs.declared.event.Event.{Event}
use Rattle.tuple_edge.specs.declared.node.NodeId.{NodeId}
use Rattle.tuple_edge.specs.declared.row.Row.{Row}
use Rattle.plan_reader.specs.PlanView.{PlanView}
use Rattle.pair_machine.specs.Counts.{flow_of}
use Rattle.pair_machine.specs.Machine.{State, follow, opening}
use Rattle.pair_machine.specs.Messages.{Refusal}
use Rattle.pair_machine.specs.Output.{output}
use Rattle.run_journal.specs.Text.{lined_from}
use Rattle.run_journal.specs.declared.lined.Lined.{Lined}
use Rattle.drained_run.specs.Ended.{EndsSo}
use Rattle.listed_run.specs.Listed.{first_line}
use Rattle.command_course.specs.Course.{Came, Course, Run, Runs}
use Rattle.flux_outside.specs.Told.{FilesTold}
use Rattle.run_watch.specs.Columns.{frames_from}
use Rattle.run_watch.specs.Watching.{told_from}
use Rattle.run_watch.specs.declared.happening.Told.{Told}
use Rattle.run_end.specs.declared.ends.RunEnd.{RunEnd}
use Rattle.run_end.specs.declared.ends.RunEnd.TheVariants as end
use Rattle.run_timeline.specs.Timeline.{timeline}
use Rattle.lane_chart.specs.SvgText.{chart_svg}
use Rattle.run_rehearsal.specs.Fates.{are_obeyed}
use Rattle.run_rehearsal.specs.Merged.{merged_in}
use Rattle.run_rehearsal.specs.RehearsalText.{rehearsal_text}
use Rattle.command_course.specs.Answers.{AnswerView}
use Rattle.command_course.specs.declared.answer.Ending.{Ending}
use Rattle.command_course.specs.declared.answer.Ending.TheVariants as ending

-- ---- what is told of a run's events

-- the events of a run with the lines that they have in its journal
abbrev pub lines_of : List Event → List Lined
lines_of events = lined_from first_line events

-- into how many columns of pixels the events are cut at most
abbrev pub columns : ℕ
columns = 960

-- the items that a replica has merged where these events led; where one of them is no step nothing is said
abbrev pub merged_after : PlanView → Result State Refusal → NodeId → Option ℕ
merged_after plan (Ok s) n = merged_in plan s n
merged_after plan (Err why) n = None

-- how a run stands that ended so
abbrev pub end_of : Drained → RunEnd
end_of drained.Whole = end.Done
end_of (drained.Lost stage part) = end.Lost stage part

module _ (plan : PlanView) (inputs : List Input) where
  -- what is told of events from the opening on
  abbrev pub told_of : List Event → List Told
  told_of events = told_from plan inputs opening (lines_of events)

  -- how many items each replica has merged in the state to which events lead from the opening
  abbrev pub merged_at_end : List Event → NodeId → Option ℕ
  merged_at_end events = merged_after plan (follow (flow_of plan inputs) events (Ok opening))

  -- how many rows the plan gives, where no pair is lost
  abbrev pub rows_in_all : ℕ
  rows_in_all = length (output plan inputs)

  -- the picture of the events of a run that ended so: the timeline of all lanes, as SVG
  abbrev pub picture_of : List Event → RunEnd → List ℕ
  picture_of events how = chart_svg (timeline false plan (frames_from plan inputs columns opening (lines_of events)) (told_of events) how rows_in_all)

-- what is saved: the picture, where a file is named for it
abbrev pub saved_of : Option (List ℕ) → (picture : List ℕ) → Option (List ℕ × List ℕ)
saved_of svg picture = option_map (λ name. (name, picture)) svg

-- ---- how it ends

-- A lost pair comes first; else it is done where every order was obeyed, and warns where one was not.
abbrev pub ending_after : (obeyed : Bool) → Drained → Ending
ending_after obeyed drained.Whole = if obeyed then ending.Done else ending.Warned
ending_after obeyed (drained.Lost stage part) = ending.Lost stage part

-- The plan was run for its inputs under the script, and it ended so: a list of events, legal and within the script, leads to all of the plan's output,
-- or to the state in which that pair is the first lost one, with a front of the output. What is written is the story of just these events under the
-- script's orders, what is saved is their picture, and it is done just where they obey every order.
pub record IsRehearsed (run : Run) (svg : Option (List ℕ)) (answer : AnswerView) : Type 0 where
  pub events : List Event
  pub rows : List Row
  pub how : Drained
  pub ends : EndsSo run.feed.plan run.feed.inputs run.script events rows how
  pub text : answer.text
      ≡ rehearsal_text (told_of run.feed.plan run.feed.inputs events) run.script (merged_at_end run.feed.plan run.feed.inputs events) (length rows)
      (end_of how) (rows_in_all run.feed.plan run.feed.inputs)
  pub saved : answer.saved ≡ saved_of svg (picture_of run.feed.plan run.feed.inputs events (end_of how))
  pub ending : answer.ending ≡ ending_after (are_obeyed (told_of run.feed.plan run.feed.inputs events) run.script) how

-- a course came to a run, which was rehearsed
pub record CameToRehearsal (old new : FilesTold) (course : Course) (svg : Option (List ℕ)) (answer : AnswerView) : Type 0 where
  pub run : Run
  pub came : Came old new course (Runs run)
  pub rehearsed : IsRehearsed run svg answer

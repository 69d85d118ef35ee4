-- How a run ends: what is written, and the journal that is saved.
use Rattle.std.specs.Prelude.{ℕ, ◌≡◌, List, [], length, Option, option_map, if◌then◌else◌}
use Rattle.tuple_edge.specs.declared.event.Drained.{Drained}
use Rattle.tuple_edge.specs.declared.event.Drained.TheVariants as drained
use Rattle.tuple_edge.specs.declared.event.Event.{Event}
use Rattle.tuple_edge.specs.declared.row.Row.{Row}
use Rattle.trade_text.specs.Text.{part_text, text}
use Rattle.trade_maker.specs.Summary.{summary}
use Rattle.pair_machine.specs.Drain.{partition}
use Rattle.pair_machine.specs.Numbers.{Partition}
use Rattle.run_journal.specs.Text.{events_text}
use Rattle.drained_run.specs.Ended.{IsLostAt, IsWhole}
use Rattle.command_course.specs.Course.{Came, Course, Run, Runs}
use Rattle.flux_outside.specs.Told.{FilesTold}
use Rattle.run_command.specs.declared.outcome.Journal.{Journal}
use Rattle.run_command.specs.declared.outcome.Outcome.{Outcome}

-- what is written, and what is saved before it: a file's name and its bytes
pub record Ending : Type 0 where
  pub text : List ℕ
  pub saved : Option (List ℕ × List ℕ)

-- the text of all rows, or their summary
abbrev pub whole_text : Run → List Row → List ℕ
whole_text run rows = if run.summary then summary (length run.feed.inputs) rows else text run.feed.symbols rows

-- the text of the first rows, without its last line; of a summary nothing is written
abbrev pub front_text : Run → List Row → List ℕ
front_text run rows = if run.summary then [] else part_text run.feed.symbols rows

-- the journal: the text of the events, where a file is named for it
abbrev pub journal_of : Option (List ℕ) → List Event → Option (List ℕ × List ℕ)
journal_of journal events = option_map (λ name. (name, events_text events)) journal

-- The run was whole. A list of events, legal and within the script, with what takeover owes in the buffers all along, reaches a state in which
-- egress is done and its rows are the plan's output, each once and in order. Just these rows are written, and just these events are the journal.
pub record EndsWhole (run : Run) (ending : Ending) : Type 0 where
  pub events : List Event
  pub rows : List Row
  pub whole : IsWhole run.feed.plan run.feed.inputs run.script events rows
  pub text : ending.text ≡ whole_text run rows
  pub journal : ending.saved ≡ journal_of run.journal events

-- A pair was lost. Such a list reaches a state in which egress isn't done and this pair is the first lost one; egress' rows there are a front of
-- the output. Just these rows are written, without a last line, and just these events are the journal. The script is no safe one.
pub record EndsLost (run : Run) (pair : Partition) (ending : Ending) : Type 0 where
  pub events : List Event
  pub rows : List Row
  pub lost : IsLostAt run.feed.plan run.feed.inputs run.script events rows pair
  pub text : ending.text ≡ front_text run rows
  pub journal : ending.saved ≡ journal_of run.journal events

-- the text of these rows, after a drain that ended so
abbrev pub TextIs : Run → Drained → List Row → List ℕ → Type 0
TextIs run drained.Whole rows text = text ≡ whole_text run rows
TextIs run (drained.Lost stage part) rows text = text ≡ front_text run rows

-- ---- as the code holds it

-- a journal to be saved
abbrev pub saved_of : Option Journal → Option (List ℕ × List ℕ)
saved_of journal = option_map (λ j. (j.name.now, j.bytes.items)) journal

-- what code has come to: the text that is written, and the journal that is saved
abbrev pub ending_of : Outcome → Ending
ending_of outcome = record { text = outcome.text.items; saved = saved_of outcome.journal }

-- how a run ended
abbrev pub HasEnded : Run → Drained → Ending → Type 0
HasEnded run drained.Whole ending = EndsWhole run ending
HasEnded run (drained.Lost stage part) ending = EndsLost run (partition stage part) ending

-- a course came to a run, which ended so
pub record CameToRun (old new : FilesTold) (course : Course) (outcome : Outcome) : Type 0 where
  pub run : Run
  pub came : Came old new course (Runs run)
  pub ended : HasEnded run outcome.drained (ending_of outcome)

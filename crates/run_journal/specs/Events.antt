-- The events that a text says.
use Rattle.std.specs.Prelude.{ℕ, List, Result, Ok, Err, codes, if◌then◌else◌}
use Rattle.std.specs.Str.{bytes_eq}
use Rattle.tuple_edge.specs.declared.event.Event.{Event}
use Rattle.tuple_edge.specs.declared.event.Event.TheVariants as event
use Rattle.tuple_edge.specs.declared.node.NodeId.{NodeId}
use Rattle.text_words.specs.Lines.{Word}
use Rattle.text_words.specs.Reading.{◌>>=◌, Read, end_or, word_or}
use Rattle.plan_reader.specs.PlanView.{PlanView}
use Rattle.run_journal.specs.Grammar.{index_at, link_at, node_at, replica_at, target_at, times_at}
use Rattle.run_journal.specs.Listing.{listing_of, once}
use Rattle.run_journal.specs.declared.error.EventsError.{EventsError}
use Rattle.run_journal.specs.declared.error.Fault.{Fault}
use Rattle.run_journal.specs.declared.error.Fault.TheVariants as fault
use Rattle.run_journal.specs.declared.lined.Lined.{Lined}
use Rattle.run_journal.specs.declared.listing.Repeated.{Repeated}

-- ---- a line

-- what the words behind `make` say: how often an input, or the end, is made into items
unfoldable pub make_at : List Word → Read (Repeated Event) Fault
make_at words = do
  times ← times_at words
  Ok (record { event = event.Make; times = times.0 }, times.1)

-- what the words behind `work` say: which node works, and how often
unfoldable pub work_at : PlanView → List Word → Read (Repeated Event) Fault
work_at plan words = do
  at ← node_at plan words
  times ← times_at at.1
  Ok (record { event = event.Work at.0; times = times.0 }, times.1)

-- what the words behind `take` say: which packet of which link is taken
unfoldable pub take_at : PlanView → List Word → Read (Repeated Event) Fault
take_at plan words = do
  link ← link_at plan words
  index ← index_at link.1
  end ← end_or fault.Grammar index.1
  Ok (once (event.Take link.0 index.0), end.1)

-- what the words behind `pull` say: from which node to which an item is pulled, and how often
unfoldable pub pull_at : PlanView → List Word → Read (Repeated Event) Fault
pull_at plan words = do
  from ← node_at plan words
  to ← target_at plan from.0 from.1
  times ← times_at to.1
  Ok (record { event = event.Pull from.0 to.0; times = times.0 }, times.1)

-- a replica, and no word after it
unfoldable pub last_replica_at : PlanView → List Word → Read NodeId Fault
last_replica_at plan words = do
  at ← replica_at plan words
  end ← end_or fault.Grammar at.1
  Ok (at.0, end.1)

-- what the word behind `kill` says: which replica fails
unfoldable pub kill_at : PlanView → List Word → Read (Repeated Event) Fault
kill_at plan words = do
  at ← last_replica_at plan words
  Ok (once (event.Kill at.0), at.1)

-- what the word behind `askstop` says: which replica asks to be stopped
unfoldable pub ask_stop_at : PlanView → List Word → Read (Repeated Event) Fault
ask_stop_at plan words = do
  at ← last_replica_at plan words
  Ok (once (event.AskStop at.0), at.1)

-- what the word behind `askback` says: which replica is to be brought back, as its partner asks
unfoldable pub ask_back_at : PlanView → List Word → Read (Repeated Event) Fault
ask_back_at plan words = do
  at ← last_replica_at plan words
  Ok (once (event.AskBack at.0), at.1)

-- what a line after the first one says
unfoldable pub event_at : PlanView → List Word → Read (Repeated Event) Fault
event_at plan words = do
  w ← word_or fault.Grammar words
  if bytes_eq w.0 (codes "make") then make_at w.1
      else if bytes_eq w.0 (codes "work") then work_at plan w.1
      else if bytes_eq w.0 (codes "take") then take_at plan w.1
      else if bytes_eq w.0 (codes "pull") then pull_at plan w.1
      else if bytes_eq w.0 (codes "kill") then kill_at plan w.1
      else if bytes_eq w.0 (codes "askstop") then ask_stop_at plan w.1
      else if bytes_eq w.0 (codes "askback") then ask_back_at plan w.1
      else Err fault.Grammar

-- ---- the lines

-- an event with its line
abbrev pub lined : ℕ → Repeated Event → Repeated Lined
lined number said = record { event = record { line = number; event = said.event }; times = said.times }

-- what a line with this number says, with the line
unfoldable pub lined_at : PlanView → ℕ → List Word → Read (Repeated Lined) Fault
lined_at plan number words = do
  said ← event_at plan words
  Ok (lined number said.0, said.1)

-- the events that a text says to a plan, each with its line
unfoldable pub events_of : PlanView → List ℕ → Result (List Lined) EventsError
events_of plan bytes = listing_of (codes "events") (lined_at plan) bytes

-- What is said of a refused text of events.
use Rattle.std.specs.Prelude.{ℕ, List, codes}
use Rattle.text_words.specs.Messages.{at_line}
use Rattle.run_journal.specs.declared.error.EventsError.{EventsError}
use Rattle.run_journal.specs.declared.error.EventsError.TheVariants as error
use Rattle.run_journal.specs.declared.error.Fault.{Fault}
use Rattle.run_journal.specs.declared.error.Fault.TheVariants as fault

-- a fault of a line, with the line's number
abbrev pub fault_at : ℕ → Fault → EventsError
fault_at line fault.Grammar = error.Grammar line
fault_at line fault.NoSuchNode = error.NoSuchNode line
fault_at line fault.Range = error.Range line

-- the text that says why a text of events is refused
abbrev pub events_fault : EventsError → List ℕ
events_fault error.Header = codes "header"
events_fault (error.Grammar line) = at_line line (codes "grammar")
events_fault (error.NoSuchNode line) = at_line line (codes "no such node")
events_fault (error.Range line) = at_line line (codes "range")
events_fault error.TooMany = codes "too many events"
events_fault (error.TooLong bytes) = codes "too long"
events_fault error.OutOfMemory = codes "out of memory"

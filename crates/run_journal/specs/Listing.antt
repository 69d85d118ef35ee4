-- A text of events, whatever its lines say: a fixed first line, and an event a line, as often as the line says.
use Rattle.std.specs.Prelude.{ℕ, ◌+◌, nat_lt, List, [], ◌∷◌, ◌++◌, Result, Ok, Err, codes, is_ok, length, replicate, if◌then◌else◌}
use Rattle.text_words.specs.Lines.{LineView, Word, counting_lines}
use Rattle.text_words.specs.Reading.{◌>>=◌, Read, at_line, end_or, fixed_or}
use Rattle.run_journal.specs.Limits.{max_events, max_events_bytes}
use Rattle.run_journal.specs.Messages.{fault_at}
use Rattle.run_journal.specs.declared.error.EventsError.{EventsError}
use Rattle.run_journal.specs.declared.error.EventsError.TheVariants as error
use Rattle.run_journal.specs.declared.error.Fault.{Fault}
use Rattle.run_journal.specs.declared.error.Fault.TheVariants as fault
use Rattle.run_journal.specs.declared.listing.Repeated.{Repeated}

-- ---- the first line

-- the first line that counts is fixed: the text's first word, and 1
unfoldable pub header_at : Word → List Word → Read (Unit {0}) Fault
header_at name words = do
  first ← fixed_or fault.Grammar name words
  version ← fixed_or fault.Grammar (codes "1") first.1
  end_or fault.Grammar version.1

-- the lines after the first one that counts
unfoldable pub lines_after : Word → List LineView → Result (List LineView) EventsError
lines_after name [] = Err error.Header
lines_after name (line ∷ lines) = if is_ok (header_at name line.words) then Ok lines else Err error.Header

-- the lines of a text after its first one
abbrev pub body_of : Word → List ℕ → Result (List LineView) EventsError
body_of name bytes = if nat_lt max_events_bytes (length bytes) then Err (error.TooLong (length bytes)) else lines_after name (counting_lines bytes)

-- ---- the others

-- an event that happens once
abbrev pub once : {E : Type 0} → E → Repeated E
once e = record { event = e; times = 1 }

-- these entries and one more, so many times
abbrev pub with_times : {L : Type 0} → List L → ℕ → L → Result (List L) EventsError
with_times before times entry = if nat_lt max_events (length before + times) then Err error.TooMany else Ok (before ++ replicate times entry)

-- What a line with this number says: an entry, and how often it stands.
abbrev pub LineReading : Type 0 → Type 0
LineReading L = ℕ → List Word → Read (Repeated L) Fault

-- these entries and those of one more line
unfoldable pub with_line : {L : Type 0} → LineReading L → List L → LineView → Result (List L) EventsError
with_line said_at before line = do
  said ← at_line fault_at line.number (said_at line.number line.words)
  with_times before said.times said.event

-- these entries and those of further lines, up to the first line that is refused
unfoldable pub with_lines : {L : Type 0} → LineReading L → List L → List LineView → Result (List L) EventsError
with_lines said_at before [] = Ok before
with_lines said_at before (line ∷ lines) = do
  more ← with_line said_at before line
  with_lines said_at more lines

-- the entries of a text with this first word
abbrev pub listing_of : {L : Type 0} → Word → LineReading L → List ℕ → Result (List L) EventsError
listing_of name said_at bytes = do
  lines ← body_of name bytes
  with_lines said_at [] lines

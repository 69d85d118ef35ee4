-- The records that come over a reader, and how its bytes are cut into them.
use Rattle.std.specs.Prelude.{ℕ, ◌≡◌, ◌+◌, ◌≤◌, ◌<◌, Bool, false, true, List, [], ◌∷◌, ◌++◌, Option, Some, None, Ok, Err, Result, drop, if◌then◌else◌}
use Rattle.std.specs.Io.Buffered.{reader_remaining}
use Rattle.std.specs.Io.KnownBytes.{prepend_known}
use Rattle.csv.specs.Machine.{Read as Found, ends_at_end, field_after, fields_after, is_end, step}
use Rattle.csv.specs.Reading.{default_config}
use Rattle.csv.specs.declared.parser.State.{State}
use Rattle.csv.specs.declared.parser.State.TheVariants as state
use Rattle.trade_text.specs.Limits.{max_input_bytes}
use Rattle.trade_text.specs.RecordStates.{state_of}
use Rattle.trade_text.specs.Records.{starts_with_mark}
use Rattle.trade_text.specs.declared.error.ReadError.TheVariants as error
use Rattle.trade_text.specs.declared.error.StreamError.{StreamError}
use Rattle.trade_text.specs.declared.error.StreamError.TheVariants as stream
use Rattle.trade_text.specs.declared.record_parser.RecordParser.{RecordParser}
use Rattle.trade_text.specs.declared.record_reader.RecordReader.{RecordReader}
use Rattle.trade_text.specs.declared.stream_bytes.StreamBytes.{StreamBytes}

-- ---- the parser, as csv's machine

-- what a byte does to the state, the fields and the field at hand, and whether it ends the record
pub record TakesByte (old : RecordParser) (fields : List (List ℕ)) (byte : ℕ) (ended : Bool) (new : RecordParser) (now : List (List ℕ)) : Type 0 where
  pub ends : ended ≡ is_end (step default_config (state_of old.state) byte).1
  pub state : state_of new.state ≡ (step default_config (state_of old.state) byte).0
  pub so_far : now ≡ fields_after (step default_config (state_of old.state) byte).1 fields old.field.items
  pub at_hand : new.field.items ≡ field_after (step default_config (state_of old.state) byte).1 byte old.field.items

-- what the end of the text does: it ends a record, unless the parser stands between two
abbrev pub TakesEnd : RecordParser → List (List ℕ) → Bool → RecordParser → List (List ℕ) → Type 0
TakesEnd old fields false new now = ends_at_end (state_of old.state) ≡ false
TakesEnd old fields true new now = (ends_at_end (state_of old.state) ≡ true) × (now ≡ fields ++ old.field.items ∷ []) × (state_of new.state ≡ state.StartRecord)

-- ---- the length of a record

-- how many bytes there are to the end of the next record, with the empty lines before it; without a record, how many there are
unfoldable pub next_bytes : State → List ℕ → ℕ
next_bytes s [] = 0
next_bytes s (c ∷ rest) = if is_end (step default_config s c).1 then 1 else next_bytes (step default_config s c).0 rest + 1

-- A record with too many bytes is refused as too long, and one that is read hasn't too many: no more than a file may have.
abbrev pub MeetsBound : {A : Type 0} → Result A StreamError → ℕ → ℕ → Type 0
MeetsBound (Ok x) number bytes = bytes ≤ max_input_bytes
MeetsBound (Err (stream.TooLong rec)) number bytes = (rec ≡ number) × (max_input_bytes < bytes)
MeetsBound (Err (stream.Refused fault)) number bytes = Unit {0}
MeetsBound (Err stream.Failed) number bytes = Unit {0}
MeetsBound (Err stream.OutOfMemory) number bytes = Unit {0}

-- ---- readers

-- a byte is the next one of a text, or there is none
abbrev pub GivesByte : List ℕ → Option ℕ → Option (List ℕ) → Type 0
GivesByte text None after = (text ≡ []) × (after ≡ Some [])
GivesByte text (Some byte) after = (rest : List ℕ) × (text ≡ byte ∷ rest) × (after ≡ Some rest)

module _ {R : Type 0} (rem : R → Option (List ℕ)) where
  -- the bytes that are left: those that were looked at for a mark, and then those of the reader underneath
  abbrev pub bytes_left : StreamBytes R → Option (List ℕ)
  bytes_left bytes = prepend_known (drop bytes.at bytes.front.items) (reader_remaining rem bytes.source)

  -- a text was opened behind a mark: a second mark is no header
  abbrev pub OpensText : Result (StreamBytes R) StreamError → List ℕ → Type 0
  OpensText (Ok bytes) text = (bytes_left bytes ≡ Some text) × (starts_with_mark text ≡ false)
  OpensText (Err (stream.Refused fault)) text = (fault ≡ error.Header) × (starts_with_mark text ≡ true)
  OpensText (Err (stream.TooLong rec)) text = ⊥
  OpensText (Err stream.Failed) text = Unit {0}
  OpensText (Err stream.OutOfMemory) text = Unit {0}

  -- a reader has this text left, and stands in this state between two records
  pub record StandsAt (records : RecordReader R) (state : State) (text : List ℕ) : Type 0 where
    pub left : bytes_left records.bytes ≡ Some text
    pub at : state_of records.parser.state ≡ state

  -- the same of the records of a text
  abbrev pub OpensRecords : Result (RecordReader R) StreamError → List ℕ → Type 0
  OpensRecords (Ok records) text = StandsAt records state.StartRecord text × (starts_with_mark text ≡ false)
  OpensRecords (Err (stream.Refused fault)) text = (fault ≡ error.Header) × (starts_with_mark text ≡ true)
  OpensRecords (Err (stream.TooLong rec)) text = ⊥
  OpensRecords (Err stream.Failed) text = Unit {0}
  OpensRecords (Err stream.OutOfMemory) text = Unit {0}

  -- the next record was taken, if there is one
  abbrev pub TakesOne : Option Found → Bool → List (List ℕ) → RecordReader R → Type 0
  TakesOne None found fields records = found ≡ false
  TakesOne (Some next) found fields records = (found ≡ true) × (fields ≡ next.0) × StandsAt records next.1 next.2

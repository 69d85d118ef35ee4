-- The trades that come over a reader, one after the other: the rows up to the first record that is refused, and that refusal.
use Rattle.std.specs.Prelude.{ℕ, ◌≡◌, ◌+◌, false, List, [], ◌∷◌, Option, Some, None, Ok, Err, Result, if◌then◌else◌}
use Rattle.csv.specs.Machine.{ends_at_end}
use Rattle.csv.specs.Reading.{default_config, records, strip_bom}
use Rattle.csv.specs.declared.parser.State.{State}
use Rattle.csv.specs.declared.parser.State.TheVariants as state
use Rattle.tuple_edge.specs.declared.row.Row.{Row}
use Rattle.trade_text.specs.Columns.{trade_columns}
use Rattle.trade_text.specs.Records.{records_left, starts_with_mark}
use Rattle.trade_text.specs.Results.{Read}
use Rattle.trade_text.specs.StreamRecords.{StandsAt, next_bytes}
use Rattle.trade_text.specs.Trades.{trade_in}
use Rattle.trade_text.specs.declared.columns.TradeColumns.{TradeColumns}
use Rattle.trade_text.specs.declared.error.Field.{Field}
use Rattle.trade_text.specs.declared.error.ReadError.{ReadError}
use Rattle.trade_text.specs.declared.error.ReadError.TheVariants as error
use Rattle.trade_text.specs.declared.error.StreamError.{StreamError}
use Rattle.trade_text.specs.declared.error.StreamError.TheVariants as stream
use Rattle.trade_text.specs.declared.record_reader.RecordReader.{RecordReader}
use Rattle.trade_text.specs.declared.trade_file.TradeForm.{TradeForm}

-- ---- what a text says, row by row

-- the rows up to the first record that is refused, why that one is, and the symbols that are known then
pub record Told : Type 0 where
  pub rows : List Row
  pub fault : Option (ReadError Field)
  pub symbols : List (List ℕ)

-- no further row: the next record has this fault, or there is none, and these symbols are known
abbrev pub no_more : Option (ReadError Field) → List (List ℕ) → Told
no_more fault symbols = record { rows = []; fault = fault; symbols = symbols }

-- a row, and what is told behind it
abbrev pub behind_row : Row → Told → Told
behind_row row later = record later { rows = row ∷ later.rows }

-- a record gave this, and then come others
abbrev pub told_next : (TradeForm → Told) → List (List ℕ) → Read Field (Row × TradeForm) → Told
told_next later known (Ok next) = behind_row next.0 (later next.1)
told_next later known (Err fault) = no_more (Some fault) known

-- what records say, of which the first has this number
abbrev pub told_from : ℕ → TradeForm → List (List (List ℕ)) → Told
told_from number form [] = no_more None form.symbols
told_from number form (fields ∷ later) = told_next (λ form. told_from (number + 1) form later) form.symbols (trade_in number form fields)

-- what the records under a header say, by its columns or its fault
abbrev pub told_under : List (List (List ℕ)) → Read Field TradeColumns → Told
told_under later (Ok columns) = told_from 2 (record { columns = columns; symbols = [] }) later
told_under later (Err fault) = no_more (Some fault) []

-- what records say of which the first is the header
abbrev pub told_of_records : List (List (List ℕ)) → Told
told_of_records [] = no_more (Some error.Header) []
told_of_records (header ∷ later) = told_under later (trade_columns header)

-- what a text says behind the mark at its front: a second mark is no header
abbrev pub told_of_text : List ℕ → Told
told_of_text text = if starts_with_mark text then no_more (Some error.Header) [] else told_of_records (records default_config text)

-- what the bytes say: a mark at their front is dropped, once
abbrev pub told_of : List ℕ → Told
told_of bytes = told_of_text (strip_bom bytes)

-- how many bytes the header has, with its line's end
abbrev pub header_bytes : List ℕ → ℕ
header_bytes bytes = next_bytes state.StartRecord (strip_bom bytes)

-- ---- readers

-- a refusal as a reader of a stream tells it
abbrev pub told_error : ReadError Field → StreamError
told_error error.Header = stream.Refused error.Header
told_error (error.Row number) = stream.Refused (error.Row number)
told_error (error.Field number what) = stream.Refused (error.Field number what)
told_error (error.Range number what) = stream.Refused (error.Range number what)
told_error error.TooMany = stream.Refused error.TooMany
told_error (error.TooLong bytes) = stream.Refused (error.TooLong bytes)
told_error error.OutOfMemory = stream.OutOfMemory

-- The error of a call is the fault that is told next. A record with too many bytes is refused whatever it says, and that there is no
-- memory, or that the reader underneath fails, may come at any time.
abbrev pub IsFaultOf : StreamError → Told → Type 0
IsFaultOf (stream.Refused fault) told = (told.rows ≡ []) × (told.fault ≡ Some fault)
IsFaultOf (stream.TooLong rec) told = Unit {0}
IsFaultOf stream.Failed told = Unit {0}
IsFaultOf stream.OutOfMemory told = Unit {0}

module _ {R : Type 0} (rem : R → Option (List ℕ)) where
  -- a reader has these records left
  pub record HasRecords (records : RecordReader R) (left : List (List (List ℕ))) : Type 0 where
    pub state : State
    pub text : List ℕ
    pub stands : StandsAt rem records state text
    pub between : ends_at_end state ≡ false
    pub are : left ≡ records_left state text

  -- a reader, whose next record has this number, is still to tell this
  pub record Tells (records : RecordReader R) (number : ℕ) (form : TradeForm) (told : Told) : Type 0 where
    pub left : List (List (List ℕ))
    pub has : HasRecords records left
    pub is : told ≡ told_from number form left

  -- a call gave the row that is told next, or that there is none
  abbrev pub GivesNext : Result (Option Row) StreamError → RecordReader R → ℕ → TradeForm → Told → Type 0
  GivesNext (Ok (Some row)) records number form told = (later : Told) × (told ≡ behind_row row later) × Tells records number form later
  GivesNext (Ok None) records number form told = told ≡ no_more None form.symbols
  GivesNext (Err e) records number form told = IsFaultOf e told

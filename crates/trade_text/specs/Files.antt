-- What a file of rows says: the header and the records behind it, one after the other.
use Rattle.std.specs.Prelude.{ℕ, ◌≡◌, ◌+◌, nat_lt, false, List, [], ◌∷◌, ◌++◌, length, Ok, Err, Result, Vec, unwrap_or, if◌then◌else◌}
use Rattle.std.specs.Borrow.{Bor}
use Rattle.std.specs.declared.alloc.Global.{Global}
use Rattle.csv.specs.Machine.{ends_at_end}
use Rattle.csv.specs.Reading.{default_config, records, strip_bom}
use Rattle.csv.specs.Records.{field_at}
use Rattle.csv.specs.declared.parser.State.{State}
use Rattle.csv.specs.declared.reader.Reader.{Reader}
use Rattle.tuple_edge.specs.declared.row.Row.{Row}
use Rattle.trade_text.specs.Fields.{trim_blanks}
use Rattle.trade_text.specs.Limits.{max_input_bytes}
use Rattle.trade_text.specs.Records.{HasLeft, records_left, starts_with_mark}
use Rattle.trade_text.specs.Refusals.{IsRefusalOf}
use Rattle.trade_text.specs.Results.{Read, ◌>>=◌}
use Rattle.trade_text.specs.declared.error.ReadError.{ReadError}
use Rattle.trade_text.specs.declared.error.ReadError.TheVariants as error
use Rattle.trade_text.specs.declared.fields.Fault.{Fault}
use Rattle.trade_text.specs.declared.fields.Fault.TheVariants as fault

-- ---- a file

-- the first record of a file, and the others
pub record File : Type 0 where
  pub header : List (List ℕ)
  pub records : List (List (List ℕ))

-- the first of these records as a header, and the others behind it; without a record there is no header
abbrev pub file_of_records : {F : Type 0} → List (List (List ℕ)) → Read F File
file_of_records [] = Err error.Header
file_of_records (header ∷ records) = Ok (record { header = header; records = records })

-- the records of a text without the mark at its front: a second mark is no header
abbrev pub file_of_text : {F : Type 0} → List ℕ → Read F File
file_of_text text = if starts_with_mark text then Err error.Header else file_of_records (records default_config text)

-- the records of the bytes of a file
unfoldable pub file_of : {F : Type 0} → List ℕ → Read F File
file_of bytes = if nat_lt max_input_bytes (length bytes) then Err (error.TooLong (length bytes)) else file_of_text (strip_bom bytes)

-- a reader stands behind the header of what a file says, and has its other records left
pub record IsOpen {F : Type 0} (file : Read F File) (header : List (List ℕ)) (reader : Reader (Bor (List ℕ))) : Type 0 where
  pub state : State
  pub text : List ℕ
  pub left : HasLeft reader state text
  pub between : ends_at_end state ≡ false
  pub is : file ≡ Ok (record { header = header; records = records_left state text })

-- ---- a record

-- the error of a fault: which field it is of, and of the record of which number
abbrev pub error_of : {F : Type 0} → Fault → ℕ → F → ReadError F
error_of fault.Form number what = error.Field number what
error_of fault.Range number what = error.Range number what

-- the value of a field of the record of this number, or why it is refused
abbrev pub located : {F A : Type 0} → ℕ → F → Result A Fault → Read F A
located number what (Ok x) = Ok x
located number what (Err why) = Err (error_of why number what)

-- the field at a place, without blanks at its ends
abbrev pub text_at : List (List ℕ) → ℕ → List ℕ
text_at fields place = trim_blanks (unwrap_or (field_at fields place) [])

-- ---- all records

-- the rows so far, and what is kept from record to record
pub record RowsRead (K : Type 0) : Type 0 where
  pub rows : List Row
  pub kept : K

-- no rows so far
abbrev pub no_rows : {K : Type 0} → K → RowsRead K
no_rows kept = record { rows = []; kept = kept }

-- with one row more
abbrev pub with_row : {K : Type 0} → List Row → Row × K → RowsRead K
with_row rows next = record { rows = rows ++ next.0 ∷ []; kept = next.1 }

-- the rows with that of one more record, which row_in gives; there is room for so many
unfoldable pub row_onto : {F K : Type 0} → (ℕ → K → List (List ℕ) → Read F (Row × K)) → ℕ → ℕ → RowsRead K → List (List ℕ) → Read F (RowsRead K)
row_onto row_in room number so_far fields = if nat_lt (length so_far.rows) room then (do
  next ← row_in number so_far.kept fields
  Ok (with_row so_far.rows next)) else Err error.TooMany

-- the rows with those of more records, of which the first has this number
abbrev pub rows_onto : {F K : Type 0} → (ℕ → K → List (List ℕ) → Read F (Row × K)) → ℕ → ℕ → RowsRead K → List (List (List ℕ)) → Read F (RowsRead K)
rows_onto row_in room number so_far [] = Ok so_far
rows_onto row_in room number so_far (fields ∷ records) = row_onto row_in room number so_far fields >>= λ more. rows_onto row_in room (number + 1) more records

-- the rows of the records behind a header, which is record 1
abbrev pub rows_of : {F K : Type 0} → (ℕ → K → List (List ℕ) → Read F (Row × K)) → ℕ → K → List (List (List ℕ)) → Read F (RowsRead K)
rows_of row_in room kept records = rows_onto row_in room 2 (no_rows kept) records

-- What a call that reads the rows of a file gave, with what it kept, is what reading gives, unless memory ran out.
abbrev pub GivesRows : {F K : Type 0} → Read F (Vec Row Global) → K → Read F (RowsRead K) → Type 0
GivesRows (Ok rows) kept read = read ≡ Ok (record { rows = rows.items; kept = kept })
GivesRows (Err e) kept read = IsRefusalOf e read

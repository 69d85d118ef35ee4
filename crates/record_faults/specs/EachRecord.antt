-- Why each record of a file is refused, if it is. A record is judged behind those before it that are accepted: one that is refused counts for
-- nothing, neither as a row nor for its symbol.
use Rattle.std.specs.Prelude.{ℕ, ◌+◌, List, [], ◌∷◌, Option, None, Some, Ok, Err}
use Rattle.tuple_edge.specs.declared.row.Row.{Row}
use Rattle.trade_text.specs.Cash.{cash_in}
use Rattle.trade_text.specs.Columns.{cash_columns, trade_columns}
use Rattle.trade_text.specs.Files.{RowsRead, file_of, no_rows, row_onto}
use Rattle.trade_text.specs.Limits.{max_inputs}
use Rattle.trade_text.specs.Results.{Read, ◌>>=◌}
use Rattle.trade_text.specs.Trades.{trade_in}
use Rattle.trade_text.specs.declared.columns.TradeColumns.{TradeColumns}
use Rattle.trade_text.specs.declared.error.CashField.{CashField}
use Rattle.trade_text.specs.declared.error.Field.{Field}
use Rattle.trade_text.specs.declared.error.ReadError.{ReadError}
use Rattle.trade_text.specs.declared.trade_file.TradeForm.{TradeForm}

-- why something is refused, if it is
abbrev pub fault_in : {F A : Type 0} → Read F A → Option (ReadError F)
fault_in (Ok x) = None
fault_in (Err fault) = Some fault

-- what was there before, with what comes now, unless that is refused
abbrev pub unless_refused : {F A : Type 0} → A → Read F A → A
unless_refused before (Ok after) = after
unless_refused before (Err fault) = before

-- why each of these records is refused, if it is: the first has this number, and stands behind the rows that were accepted
abbrev pub faults_from : {F K : Type 0} → (ℕ → K → List (List ℕ) → Read F (Row × K)) → ℕ → ℕ → RowsRead K → List (List (List ℕ)) → List (Option (ReadError F))
faults_from row_in room number so_far [] = []
faults_from row_in room number so_far (fields ∷ records) =
    fault_in (row_onto row_in room number so_far fields) ∷ faults_from row_in room (number + 1) (unless_refused so_far (row_onto row_in room number so_far fields)) records

-- the rows of those that are accepted, and what is kept then
abbrev pub rows_from : {F K : Type 0} → (ℕ → K → List (List ℕ) → Read F (Row × K)) → ℕ → ℕ → RowsRead K → List (List (List ℕ)) → RowsRead K
rows_from row_in room number so_far [] = so_far
rows_from row_in room number so_far (fields ∷ records) =
    rows_from row_in room (number + 1) (unless_refused so_far (row_onto row_in room number so_far fields)) records

-- those of the records that are accepted, by why each is refused, if it is
abbrev pub accepted : {F : Type 0} → List (Option (ReadError F)) → List (List (List ℕ)) → List (List (List ℕ))
accepted [] records = []
accepted (fault ∷ faults) [] = []
accepted (None ∷ faults) (fields ∷ records) = fields ∷ accepted faults records
accepted (Some fault ∷ faults) (fields ∷ records) = accepted faults records

-- the first of these faults, if there is one
abbrev pub first_of : {F : Type 0} → List (Option (ReadError F)) → Option (ReadError F)
first_of [] = None
first_of (None ∷ faults) = first_of faults
first_of (Some fault ∷ faults) = Some fault

-- ---- trades

-- nothing was read so far under a header with these columns
abbrev pub opening : TradeColumns → RowsRead TradeForm
opening columns = no_rows (record { columns = columns; symbols = [] })

-- Why each record of a file of trades behind its header is refused, if it is; or why the file is, whatever its records: it is too long, or its header is no header.
unfoldable pub trade_faults : List ℕ → Read Field (List (Option (ReadError Field)))
trade_faults bytes = do
  file ← file_of bytes
  columns ← trade_columns file.header
  Ok (faults_from trade_in max_inputs 2 (opening columns) file.records)

-- ---- cash movements

-- the same of a file of cash movements, of which so many have room
unfoldable pub cash_faults : List ℕ → ℕ → Read CashField (List (Option (ReadError CashField)))
cash_faults bytes room = do
  file ← file_of bytes
  columns ← cash_columns file.header
  Ok (faults_from cash_in room 2 (no_rows columns) file.records)

-- ---- the records that are refused

-- a record that is refused: its number, and why
pub record Refusal (F : Type 0) : Type 0 where
  pub number : ℕ
  pub fault : ReadError F

-- those of records that are refused, of which the first has this number
abbrev pub refusals : {F : Type 0} → ℕ → List (Option (ReadError F)) → List (Refusal F)
refusals number [] = []
refusals number (None ∷ faults) = refusals (number + 1) faults
refusals number (Some fault ∷ faults) = record { number = number; fault = fault } ∷ refusals (number + 1) faults

-- What the faults of all records have to do with what a file says, and what is said by the records that are accepted.
use Rattle.std.specs.Prelude.{ℕ, ◌≡◌, ◌≤◌, List, ◌∷◌, length, Option, Some, Ok, Err}
use Rattle.trade_text.specs.Cash.{cash_of}
use Rattle.trade_text.specs.Columns.{trade_columns}
use Rattle.trade_text.specs.Files.{File, file_of}
use Rattle.trade_text.specs.Limits.{max_input_bytes, max_inputs}
use Rattle.trade_text.specs.Results.{Read}
use Rattle.trade_text.specs.Trades.{trade_in, trades_of}
use Rattle.trade_text.specs.TradesView.{only_trades}
use Rattle.trade_text.specs.declared.columns.TradeColumns.{TradeColumns}
use Rattle.trade_text.specs.declared.error.Field.{Field}
use Rattle.trade_text.specs.declared.error.ReadError.{ReadError}
use Rattle.record_faults.specs.EachRecord.{accepted, cash_faults, fault_in, faults_from, first_of, opening, rows_from, trade_faults}
use Rattle.record_faults.specs.Written.{file_text}

-- the first fault of a file: why it is refused whatever its records, or the first fault among these
abbrev pub first_fault : {F : Type 0} → Read F (List (Option (ReadError F))) → Option (ReadError F)
first_fault (Ok faults) = first_of faults
first_fault (Err fault) = Some fault

-- The first of all faults is that by which a file is refused, and without a fault it is accepted.
pub record FirstIsTheRefusal : Type 0 where
  pub trades : (bytes : List ℕ) → first_fault (trade_faults bytes) ≡ fault_in (trades_of bytes)
  pub cash : (bytes : List ℕ) (room : ℕ) → first_fault (cash_faults bytes room) ≡ fault_in (cash_of bytes room)

-- Of a file of trades the header and the records that are accepted, as csv writes them, are a file of just their rows, unless its text is too long.
abbrev pub AcceptedAreAccepted : Type 0
AcceptedAreAccepted = (bytes : List ℕ) (file : File) (columns : TradeColumns) → file_of {F = Field} bytes ≡ Ok file → trade_columns file.header ≡ Ok columns
    → length (file_text (file.header ∷ accepted (faults_from trade_in max_inputs 2 (opening columns) file.records) file.records)) ≤ max_input_bytes
    → trades_of (file_text (file.header ∷ accepted (faults_from trade_in max_inputs 2 (opening columns) file.records) file.records))
    ≡ Ok (only_trades (rows_from trade_in max_inputs 2 (opening columns) file.records).rows (rows_from trade_in max_inputs 2 (opening columns) file.records).kept.symbols)

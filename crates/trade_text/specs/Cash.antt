-- The cash movements that a text says.
use Rattle.std.specs.Prelude.{ℕ, ℤ, pos, ◌==◌, List, length, Ok, Err, if◌then◌else◌}
use Rattle.tuple_edge.specs.declared.row.Row.{Row}
use Rattle.trade_text.specs.Columns.{cash_columns}
use Rattle.trade_text.specs.Fields.{account_of, amount_of, time_of}
use Rattle.trade_text.specs.Files.{file_of, located, rows_of, text_at}
use Rattle.trade_text.specs.Results.{Read, ◌>>=◌}
use Rattle.trade_text.specs.declared.columns.CashColumns.{CashColumns}
use Rattle.trade_text.specs.declared.error.CashField.{CashField}
use Rattle.trade_text.specs.declared.error.CashField.TheVariants as field
use Rattle.trade_text.specs.declared.error.ReadError.TheVariants as error

-- the row of a cash movement: no symbol, no quantity, and the amount as its value
abbrev pub cash_row : ℕ → ℕ → ℤ → Row
cash_row time account amount = record { time = pos time; account = pos account; symbol = pos 0; qty = pos 0; value = amount }

-- the row of a record of this number; the columns stay
unfoldable pub cash_in : ℕ → CashColumns → List (List ℕ) → Read CashField (Row × CashColumns)
cash_in number columns fields = if length fields == columns.count then (do
  time ← located number field.Time (time_of (text_at fields columns.time))
  account ← located number field.Account (account_of (text_at fields columns.account))
  amount ← located number field.Amount (amount_of (text_at fields columns.amount))
  Ok (cash_row time account amount, columns)) else Err (error.Row number)

-- the movements of a file, of which so many have room: the header, and then a movement a record
unfoldable pub cash_of : List ℕ → ℕ → Read CashField (List Row)
cash_of bytes room = do
  file ← file_of bytes
  columns ← cash_columns file.header
  read ← rows_of cash_in room columns file.records
  Ok read.rows

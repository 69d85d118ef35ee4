-- The trades that a text says.
use Rattle.std.specs.Prelude.{ℕ, pos, ◌*◌, ◌==◌, List, [], length, Ok, Err, if◌then◌else◌}
use Rattle.std.specs.Option.{ok_or}
use Rattle.tuple_edge.specs.declared.row.Row.{Row}
use Rattle.trade_text.specs.Columns.{trade_columns}
use Rattle.trade_text.specs.Fields.{account_of, price_of, qty_of, side_of, symbol_of, time_of}
use Rattle.trade_text.specs.Files.{file_of, located, rows_of, text_at}
use Rattle.trade_text.specs.Limits.{max_inputs}
use Rattle.trade_text.specs.Results.{Read, ◌>>=◌}
use Rattle.trade_text.specs.Signed.{signed}
use Rattle.trade_text.specs.Symbols.{numbered}
use Rattle.trade_text.specs.TradesView.{TradesView, only_trades}
use Rattle.trade_text.specs.declared.error.Field.{Field}
use Rattle.trade_text.specs.declared.error.Field.TheVariants as field
use Rattle.trade_text.specs.declared.error.ReadError.TheVariants as error
use Rattle.trade_text.specs.declared.fields.Fault.TheVariants as fault
use Rattle.trade_text.specs.declared.fields.Side.{Side}
use Rattle.trade_text.specs.declared.trade_file.TradeForm.{TradeForm}

-- the number of a record's symbol, and the symbols that are known then
unfoldable pub symbol_in : ℕ → List (List ℕ) → List ℕ → Read Field (ℕ × List (List ℕ))
symbol_in number known text = do
  name ← located number field.Symbol (symbol_of text)
  located number field.Symbol (ok_or (numbered known name) fault.Range)

-- the row of a trade: the quantity and the value are below zero for a sale
abbrev pub trade_row : ℕ → ℕ → ℕ → Side → ℕ → ℕ → Row
trade_row time account symbol side qty cents = record {
  time = pos time;
  account = pos account;
  symbol = pos symbol;
  qty = signed side qty;
  value = signed side (qty * cents);
}

-- The row of a record of this number, and the symbols that are known then. The fields are read in this order, whatever that of the columns.
unfoldable pub trade_in : ℕ → TradeForm → List (List ℕ) → Read Field (Row × TradeForm)
trade_in number form fields = if length fields == form.columns.count then (do
  time ← located number field.Time (time_of (text_at fields form.columns.time))
  account ← located number field.Account (account_of (text_at fields form.columns.account))
  symbol ← symbol_in number form.symbols (text_at fields form.columns.symbol)
  side ← located number field.Side (side_of (text_at fields form.columns.side))
  qty ← located number field.Qty (qty_of (text_at fields form.columns.qty))
  cents ← located number field.Price (price_of (text_at fields form.columns.price))
  Ok (trade_row time account symbol.0 side qty cents, record form { symbols = symbol.1 })) else Err (error.Row number)

-- the trades of a file: the header, and then a trade a record
unfoldable pub trades_of : List ℕ → Read Field TradesView
trades_of bytes = do
  file ← file_of bytes
  columns ← trade_columns file.header
  read ← rows_of trade_in max_inputs (record { columns = columns; symbols = [] }) file.records
  Ok (only_trades read.rows read.kept.symbols)

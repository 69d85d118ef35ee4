-- The header: where each field stands in a record.
use Rattle.std.specs.Prelude.{ℕ, Bool, ◌==◌, ◌||◌, List, length, Ok, Err, if◌then◌else◌, count_by, position}
use Rattle.std.specs.Option.{ok_or}
use Rattle.std.specs.Str.{str_eq_ignore_ascii_case}
use Rattle.trade_text.specs.Fields.{trim_blanks}
use Rattle.trade_text.specs.Kinds.{Kind, cash_kind, trades_kind}
use Rattle.trade_text.specs.Results.{Read, ◌>>=◌}
use Rattle.trade_text.specs.declared.columns.CashColumns.{CashColumns}
use Rattle.trade_text.specs.declared.columns.TradeColumns.{TradeColumns}
use Rattle.trade_text.specs.declared.error.CashField.{CashField}
use Rattle.trade_text.specs.declared.error.CashField.TheVariants as cash_field
use Rattle.trade_text.specs.declared.error.Field.{Field}
use Rattle.trade_text.specs.declared.error.Field.TheVariants as field
use Rattle.trade_text.specs.declared.error.ReadError.TheVariants as error

-- whether a text without blanks at its ends is a name of a field, in either case
abbrev pub is_name_of : {F : Type 0} → Kind F → F → List ℕ → Bool
is_name_of kind what text = str_eq_ignore_ascii_case text (kind.name what) || str_eq_ignore_ascii_case text (kind.synonym what)

-- whether a column of the header is that of a field: blanks at the ends of its name count for nothing
abbrev pub is_column_of : {F : Type 0} → Kind F → F → List ℕ → Bool
is_column_of kind what text = is_name_of kind what (trim_blanks text)

-- the place of a field: that of its name, which the header has exactly once
abbrev pub place_of : {F : Type 0} → Kind F → F → List (List ℕ) → Read F ℕ
place_of kind what header =
    if count_by (is_column_of kind what) header == 1 then ok_or (position (is_column_of kind what) header) error.Header else Err error.Header

-- how many fields a record of trades has, and where the six stand
unfoldable pub trade_columns : List (List ℕ) → Read Field TradeColumns
trade_columns header = do
  time ← place_of trades_kind field.Time header
  account ← place_of trades_kind field.Account header
  symbol ← place_of trades_kind field.Symbol header
  side ← place_of trades_kind field.Side header
  qty ← place_of trades_kind field.Qty header
  price ← place_of trades_kind field.Price header
  Ok (record { count = length header; time = time; account = account; symbol = symbol; side = side; qty = qty; price = price })

-- how many fields a record of cash movements has, and where the three stand
unfoldable pub cash_columns : List (List ℕ) → Read CashField CashColumns
cash_columns header = do
  time ← place_of cash_kind cash_field.Time header
  account ← place_of cash_kind cash_field.Account header
  amount ← place_of cash_kind cash_field.Amount header
  Ok (record { count = length header; time = time; account = account; amount = amount })

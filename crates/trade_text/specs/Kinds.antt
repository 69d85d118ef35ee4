-- The two kinds of files, trades and cash movements: what their fields and their rows are called.
use Rattle.std.specs.Prelude.{ℕ, List, codes}
use Rattle.trade_text.specs.declared.error.CashField.{CashField}
use Rattle.trade_text.specs.declared.error.CashField.TheVariants as cash_field
use Rattle.trade_text.specs.declared.error.Field.{Field}
use Rattle.trade_text.specs.declared.error.Field.TheVariants as field

-- a kind of file by its fields: what each is called, what else a header may call it, and what the rows are called
pub record Kind (F : Type 0) : Type 0 where
  pub name : F → List ℕ
  pub synonym : F → List ℕ
  pub rows : List ℕ

-- ---- trades

-- what a field of a trade is called
abbrev pub trade_name : Field → List ℕ
trade_name field.Time = codes "time"
trade_name field.Account = codes "account"
trade_name field.Symbol = codes "symbol"
trade_name field.Side = codes "side"
trade_name field.Qty = codes "qty"
trade_name field.Price = codes "price"

-- the quantity alone has another name
abbrev pub trade_synonym : Field → List ℕ
trade_synonym field.Qty = codes "quantity"
trade_synonym what = trade_name what

-- the kind of files that say trades
abbrev pub trades_kind : Kind Field
trades_kind = record { name = trade_name; synonym = trade_synonym; rows = codes "trades" }

-- ---- cash movements

-- what a field of a cash movement is called
abbrev pub cash_name : CashField → List ℕ
cash_name cash_field.Time = codes "time"
cash_name cash_field.Account = codes "account"
cash_name cash_field.Amount = codes "amount"

-- the kind of files that say cash movements
abbrev pub cash_kind : Kind CashField
cash_kind = record { name = cash_name; synonym = cash_name; rows = codes "movements" }

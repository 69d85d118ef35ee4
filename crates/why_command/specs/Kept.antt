-- Files that are read and whose text is kept.
use Rattle.std.specs.Prelude.{ℕ, List, Ok, Err}
use Rattle.tuple_edge.specs.declared.row.Row.{Row}
use Rattle.trade_text.specs.TradesView.{TradesView}
use Rattle.command_course.specs.Course.{Reading}
use Rattle.command_course.specs.Inputs.{cash_from, trades_from}

-- trades, with the bytes of their file
pub record KeptTrades : Type 0 where
  pub trades : TradesView
  pub bytes : List ℕ

-- cash movements, with the bytes of their file
pub record KeptCash : Type 0 where
  pub rows : List Row
  pub bytes : List ℕ

-- what was read, kept with something more
abbrev pub read_with : {A B : Type 0} → (A → B) → Reading A → Reading B
read_with kept (Ok x) = Ok (kept x)
read_with kept (Err line) = Err line

-- the trades of a file with these bytes, and the bytes
abbrev pub kept_trades_from : List ℕ → List ℕ → Reading KeptTrades
kept_trades_from name bytes = read_with (λ trades. record { trades = trades; bytes = bytes }) (trades_from name bytes)

-- the cash movements of a file with these bytes, of which so many have room, and the bytes
abbrev pub kept_cash_from : ℕ → List ℕ → List ℕ → Reading KeptCash
kept_cash_from room name bytes = read_with (λ rows. record { rows = rows; bytes = bytes }) (cash_from room name bytes)

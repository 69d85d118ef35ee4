-- What contracts see of trades, and the limits of trades.
use Rattle.std.specs.Prelude.{ℕ, ℤ, Bool, false, pos, neg_ℤ, ◌≡◌, ◌≤◌, ◌≤ℤ◌, List, [], ◌∷◌, length, All}
use Rattle.tuple_edge.specs.Input.{Input}
use Rattle.tuple_edge.specs.declared.row.Row.{Row}
use Rattle.trade_text.specs.Limits.{max_account, max_inputs, max_qty, max_seconds, max_symbols, max_value}

-- the rows in order, the source of each, and the symbols in the order of their numbers, of which the first is 1; where no source is listed for a
-- row it is the first, 0, from which all trades come. Rows of a second source are there only once its file was merged.
pub record TradesView : Type 0 where
  pub rows : List Row
  pub sources : List ℕ
  pub merged : Bool
  pub symbols : List (List ℕ)

-- trades alone, with no other file merged
abbrev pub only_trades : List Row → List (List ℕ) → TradesView
only_trades rows symbols = record { rows = rows; sources = []; merged = false; symbols = symbols }

-- rows with their sources
abbrev pub paired : List Row → List ℕ → List Input
paired [] sources = []
paired (row ∷ rows) [] = record { source = 0; row = row } ∷ paired rows []
paired (row ∷ rows) (source ∷ sources) = record { source = source; row = row } ∷ paired rows sources

-- the inputs of a dataflow
abbrev pub inputs_in : TradesView → List Input
inputs_in trades = paired trades.rows trades.sources

-- a number lies between two bounds
pub record IsBetween (least most z : ℤ) : Type 0 where
  pub low : least ≤ℤ z
  pub high : z ≤ℤ most

-- a row may be that of a trade or of a cash movement: each field lies within its limits, among them a movement's symbol 0 and quantity 0
pub record IsInputRow (r : Row) : Type 0 where
  pub time : IsBetween (pos 0) (pos max_seconds) r.time
  pub account : IsBetween (pos 1) (pos max_account) r.account
  pub symbol : IsBetween (pos 0) (pos max_symbols) r.symbol
  pub qty : IsBetween (neg_ℤ (pos max_qty)) (pos max_qty) r.qty
  pub value : IsBetween (neg_ℤ (pos max_value)) (pos max_value) r.value

-- the rows and the symbols of trades are within their limits
pub record IsTrades (t : TradesView) : Type 0 where
  pub few_rows : length t.rows ≤ max_inputs
  pub few_symbols : length t.symbols ≤ max_symbols
  pub rows : All IsInputRow t.rows
  -- a second source is the greatest, and there is none before its file was merged
  pub few_sources : All (λ source. source ≤ 1) t.sources
  pub unmerged : t.merged ≡ false → t.sources ≡ []

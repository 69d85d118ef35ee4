-- The lines of rows, without the column names.
use Rattle.std.specs.Prelude.{ℕ, List}
use Rattle.std.specs.List.{flat_map}
use Rattle.trade_text.specs.Text.{row_line}
use Rattle.tuple_edge.specs.declared.row.Row.{Row}

-- a line for each row
abbrev pub lines_of : List (List ℕ) → List Row → List ℕ
lines_of symbols rows = flat_map (row_line symbols) rows

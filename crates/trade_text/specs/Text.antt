-- The text of rows.
use Rattle.std.specs.Prelude.{List, ℕ, ◌++◌, length, codes}
use Rattle.std.specs.Fmt.{decimal, signed_decimal}
use Rattle.std.specs.List.{flat_map}
use Rattle.tuple_edge.specs.declared.row.Row.{Row}
use Rattle.trade_text.specs.Symbols.{symbol_at}

-- the line of column names
abbrev pub column_names : List ℕ
column_names = codes "time,account,symbol,qty,value\n"

-- a row as its line has it, without the end of the line
abbrev pub row_text : List (List ℕ) → Row → List ℕ
row_text symbols r = (signed_decimal r.time ++ codes "," ++ signed_decimal r.account ++ codes ",") ++ symbol_at symbols r.symbol ++ (codes "," ++ signed_decimal r.qty ++ codes "," ++ signed_decimal r.value)

-- the line of a row, with its symbol by name
abbrev pub row_line : List (List ℕ) → Row → List ℕ
row_line symbols r = signed_decimal r.time ++ codes "," ++ signed_decimal r.account ++ codes "," ++ symbol_at symbols r.symbol
    ++ codes "," ++ signed_decimal r.qty ++ codes "," ++ signed_decimal r.value ++ codes "\n"

-- the column names and a line for each row
abbrev pub part_text : List (List ℕ) → List Row → List ℕ
part_text symbols rows = column_names ++ flat_map (row_line symbols) rows

-- the last line: how many rows there are
abbrev pub count_line : ℕ → List ℕ
count_line count = codes "rows," ++ decimal count ++ codes "\n"

-- the text of rows: the column names, a line for each row, and their number
abbrev pub text : List (List ℕ) → List Row → List ℕ
text symbols rows = part_text symbols rows ++ count_line (length rows)

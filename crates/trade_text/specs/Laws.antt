-- What holds of the texts of all rows.
use Rattle.std.specs.Prelude.{ℕ, ◌≡◌, List, length, take}
use Rattle.tuple_edge.specs.declared.row.Row.{Row}
use Rattle.trade_text.specs.Text.{part_text, text}
use mathlib.Core.List.{IsPrefix}

-- The text of the first rows, which has no last line, is a prefix of the text of all rows.
abbrev pub FirstRowsBeginTheText : Type 0
FirstRowsBeginTheText = (symbols : List (List ℕ)) (rows all : List Row) → take (length rows) all ≡ rows → IsPrefix (part_text symbols rows) (text symbols all)

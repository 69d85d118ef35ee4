-- Records as csv writes them.
use Rattle.std.specs.Prelude.{ℕ, List, [], ◌∷◌, ◌++◌, if◌then◌else◌}
use Rattle.std.specs.List.{flat_map}
use Rattle.csv.specs.Writing.{default_writer, row_text}
use Rattle.trade_text.specs.Records.{starts_with_mark}

-- the text of records, as csv writes them
abbrev pub rows_text : List (List (List ℕ)) → List ℕ
rows_text records = flat_map (row_text default_writer) records

-- an empty line before a text that would begin with a byte order mark, which a reader would drop
abbrev pub guard : List ℕ → List ℕ
guard text = if starts_with_mark text then 10 ∷ [] else []

-- the text of a file with these records, of which the first is its header
abbrev pub file_text : List (List (List ℕ)) → List ℕ
file_text records = guard (rows_text records) ++ rows_text records

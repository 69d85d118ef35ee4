-- The summary of a run: how many trades came in and how many rows went out, and the sums of the rows.
use Rattle.std.specs.Prelude.{List, ℕ, ◌++◌, length, map, codes}
use Rattle.std.specs.Fmt.{decimal, signed_decimal}
use Rattle.tuple_edge.specs.Sum.{total_of}
use Rattle.tuple_edge.specs.declared.row.Row.{Row}

-- the sums of the rows' quantities and values, in order, each sum cut to the bounds of a field
abbrev pub summary : ℕ → List Row → List ℕ
summary trades rows =
    codes "trades," ++ decimal trades ++ codes "\nrows," ++ decimal (length rows)
    ++ codes "\nqty," ++ signed_decimal (total_of (map (λ r. r.qty) rows))
    ++ codes "\nvalue," ++ signed_decimal (total_of (map (λ r. r.value) rows)) ++ codes "\n"

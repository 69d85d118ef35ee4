-- The buckets of rows.
use Rattle.std.specs.Prelude.{ℕ, ◌==◌, List, map}
use Rattle.std.specs.List.{filter}
use Rattle.tuple_edge.specs.Row.{route_of}
use Rattle.tuple_edge.specs.declared.item.Item.{Item}
use Rattle.tuple_edge.specs.declared.item.Item.TheVariants as item
use Rattle.tuple_edge.specs.declared.row.Column.{Column}
use Rattle.tuple_edge.specs.declared.row.Row.{Row}
use Rattle.bucket_move.specs.Limits.{buckets}

-- the bucket of a row: its column's value modulo the number of buckets
abbrev pub bucket_of : Column → Row → ℕ
bucket_of by r = route_of r by buckets

-- the rows of a bucket, in order
abbrev pub rows_in : Column → ℕ → List Row → List Row
rows_in by bucket rows = filter (λ r. bucket_of by r == bucket) rows

-- rows as the items of an operator, which looks at no stamp
abbrev pub items_of : List Row → List Item
items_of rows = map (λ r. item.Row 0 r) rows

-- The sums of rows, and the rows that tell them.
use Rattle.std.specs.Prelude.{ℤ, pos, Bool, not, List, map, int_lt, unsigned_abs, if◌then◌else◌}
use Rattle.tuple_edge.specs.Sum.{saturating_sum, total_of}
use Rattle.tuple_edge.specs.declared.row.Key.{Key}
use Rattle.tuple_edge.specs.declared.row.Row.{Row}
use Rattle.stream_ops.specs.declared.sums.Sums.{Sums}

-- the sums of rows in order, from 0, each addition stopped at the bounds
abbrev pub sums_of : List Row → Sums
sums_of rows = record { qty = total_of (map (λ r. r.qty) rows); value = total_of (map (λ r. r.value) rows) }

-- the qty and value of a row
abbrev pub amounts : Row → Sums
amounts r = record { qty = r.qty; value = r.value }

-- sums and more, each stopped at the bounds
abbrev pub sums_with : Sums → Sums → Sums
sums_with sums more = record { qty = saturating_sum sums.qty more.qty; value = saturating_sum sums.value more.value }

-- the row that tells a key's sums at a time
abbrev pub sums_row : ℤ → Key → Sums → Row
sums_row time k sums = record { time = time; account = k.account; symbol = k.symbol; qty = sums.qty; value = sums.value }

-- whether the size of a sum is above a limit
abbrev pub is_above : ℤ → ℤ → Bool
is_above limit sum = int_lt limit (pos (unsigned_abs sum))

-- whether the sizes of exactly one of two sums is above a limit
abbrev pub crosses : ℤ → ℤ → ℤ → Bool
crosses limit before after = if is_above limit before then not (is_above limit after) else is_above limit after

-- The times of rows.
use Rattle.std.specs.Prelude.{ℤ, pos, ◌≤ℤ◌}
use Rattle.tuple_edge.specs.declared.item.Item.{Item}
use Rattle.tuple_edge.specs.declared.item.Item.TheVariants as item
use Rattle.op_spec.specs.Limits.{max_time_seconds}

-- a time within its limits
abbrev pub IsTime : ℤ → Type 0
IsTime t = (pos 0 ≤ℤ t) × (t ≤ℤ max_time_seconds)

-- the time of an item's row, if it has one, is within its limits
abbrev pub IsTimely : Item → Type 0
IsTimely (item.Row stamp row) = IsTime row.time
IsTimely (item.Mark stamp) = Unit {0}
IsTimely (item.End stamp) = Unit {0}

-- What stands on an edge, and the order of items.
use Rattle.std.specs.Prelude.{ℕ, Bool, nat_lt, ◌==◌, if◌then◌else◌}
use Rattle.tuple_edge.specs.declared.item.Item.{Item}
use Rattle.tuple_edge.specs.declared.item.Item.TheVariants as item

-- the number that ingress gave
abbrev pub stamp_of : Item → ℕ
stamp_of (item.Row stamp row) = stamp
stamp_of (item.Mark stamp) = stamp
stamp_of (item.End stamp) = stamp

-- at one stamp rows come before the mark, and the mark before the end
abbrev pub kind_of : Item → ℕ
kind_of (item.Row stamp row) = 0
kind_of (item.Mark stamp) = 1
kind_of (item.End stamp) = 2

-- whether x of one source comes before y of another: by stamp, then kind, then source
abbrev pub comes_before : Item → Item → ℕ → ℕ → Bool
comes_before x y from other_from =
    if stamp_of x == stamp_of y
    then (if kind_of x == kind_of y then nat_lt from other_from else nat_lt (kind_of x) (kind_of y))
    else nat_lt (stamp_of x) (stamp_of y)

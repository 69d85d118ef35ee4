-- The place of a trade among the rows of trades and movements that come in.
use Rattle.std.specs.Prelude.{ℕ, ℤ, Bool, ◌+◌, ◌-◌, ◌==◌, ◌&&◌, List, [], ◌∷◌, Option, count_by, option_map, slice_get, take, if◌then◌else◌}
use Rattle.std.specs.Ordering.{int_eq}
use Rattle.tuple_edge.specs.Input.{Input}
use Rattle.tuple_edge.specs.declared.row.Row.{Row}
use Rattle.trade_line.specs.declared.order.Spot.{Spot}

-- How many of the trades before a place have this time. Trades of one time come in in the order of their file.
abbrev pub as_early : List Row → (place : ℕ) → (time : ℤ) → ℕ
as_early rows place time = count_by (λ (r : Row). int_eq r.time time) (take place rows)

-- what tells the trade at a place from others, if it is there
abbrev pub spot_at : List Row → (place : ℕ) → Option Spot
spot_at rows place = option_map (λ (r : Row). record { time = r.time; before = as_early rows place r.time }) (slice_get rows place)

-- whether an input is a trade of this time
abbrev pub is_trade_of : (time : ℤ) → Input → Bool
is_trade_of time x = (x.source == 0) && int_eq x.row.time time

-- the place of the input that is a trade of a time and has so many of them before it
abbrev pub place_behind : (time : ℤ) → (before : ℕ) → List Input → ℕ
place_behind time before [] = 0
place_behind time before (x ∷ inputs) =
    if is_trade_of time x then (if before == 0 then 0 else place_behind time (before - 1) inputs + 1) else place_behind time before inputs + 1

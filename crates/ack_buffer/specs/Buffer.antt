-- What the buffer of an edge holds: the items numbered above low up to produced.
use Rattle.std.specs.Prelude.{◌≡◌, ℕ, ◌+◌, ◌-◌, ◌<◌, List, [], ◌∷◌, ◌++◌, length, Option, None, nat_le, if◌then◌else◌, slice_get, max, min, drop}
use Rattle.tuple_edge.specs.Limits.{number_limit}
use Rattle.tuple_edge.specs.declared.item.Item.{Item}

-- a buffer: the number up to which all is acknowledged, the number of the last item produced, the items between
-- them by rising number, and for how many more there is room
pub record BufferView : Type 0 where
  pub low : ℕ
  pub produced : ℕ
  pub items : List Item
  pub spare : ℕ

-- so many items are those numbered above low up to produced, and both numbers are within their limit
pub record IsNumbered (count low produced : ℕ) : Type 0 where
  pub exact : count ≡ produced - low
  pub low_fits : low < number_limit
  pub produced_fits : produced < number_limit

-- where `all` was produced on the edge, the buffer holds what is numbered above low, in order, and no more
pub record StandsFor (b : BufferView) (all : List Item) : Type 0 where
  pub produced : b.produced ≡ length all
  pub items : b.items ≡ drop b.low all

-- a buffer with these numbers that holds nothing
abbrev pub starting_at : ℕ → ℕ → BufferView
starting_at low produced = record { low = low; produced = produced; items = []; spare = 0 }

-- a buffer after one more item was produced: it is kept where its number is above low
abbrev pub produced_on : BufferView → Item → BufferView
produced_on b item =
    if nat_le (b.produced + 1) b.low
    then record b { produced = b.produced + 1 }
    else record b { produced = b.produced + 1; items = b.items ++ item ∷ []; spare = b.spare - 1 }

-- a buffer without the items numbered up to `upto`, whose room is free again
abbrev pub trimmed : BufferView → ℕ → BufferView
trimmed b upto = record b {
  low = max b.low upto;
  items = drop (upto - b.low) b.items;
  spare = b.spare + min (upto - b.low) (length b.items);
}

-- the item that a buffer holds under a number
abbrev pub item_at : BufferView → ℕ → Option Item
item_at b number = if nat_le number b.low then None else slice_get b.items (number - b.low - 1)

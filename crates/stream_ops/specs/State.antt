-- What contracts see of an operator's state.
use Rattle.std.specs.Prelude.{ℕ, ◌≡◌, List, [], ◌∷◌, ◌++◌, Option, None, length}
use Rattle.std.specs.List.{All}
use Rattle.tuple_edge.specs.declared.item.Item.{Item}
use Rattle.tuple_edge.specs.declared.item.Item.TheVariants as item
use Rattle.tuple_edge.specs.declared.packet.Entry.{Entry}
use Rattle.op_spec.specs.Spec.{most_rows}
use Rattle.op_spec.specs.Times.{IsTimely}
use Rattle.op_spec.specs.declared.spec.OpSpec.{OpSpec}
use Rattle.stream_ops.specs.Entries.{entries}
use Rattle.stream_ops.specs.Kept.{keys_after}

-- an operator's settings, what it keeps as entries, and, while it is watched, its entries when the watch began
pub record StateView : Type 0 where
  pub spec : OpSpec
  pub entries : List Entry
  pub old : Option (List Entry)

-- an operator with these entries, unwatched
abbrev pub rebuilt : OpSpec → List Entry → StateView
rebuilt spec entries = record { spec = spec; entries = entries; old = None }

-- an operator that was given nothing
abbrev pub unseen : OpSpec → StateView
unseen spec = rebuilt spec []

-- a state is one after these items: its entries are those after them
abbrev pub StandsFor : StateView → List Item → Type 0
StandsFor s items = s.entries ≡ entries s.spec items

-- the entries so far, with this one after them, are the front of the entries after some items
abbrev pub IsNextEntry : OpSpec → List Entry → Entry → Type 0
IsNextEntry spec so_far entry = (items : List Item) × (later : List Entry) × All IsTimely items × (entries spec items ≡ so_far ++ entry ∷ later)

-- at most how many rows answer an item: one for a row, or as many as a join keeps of a side; none for a mark, and one for each key at the end
abbrev pub most_after : OpSpec → List Item → Item → ℕ
most_after spec before (item.Row stamp row) = most_rows spec
most_after spec before (item.Mark stamp) = 0
most_after spec before (item.End stamp) = length (keys_after spec before)

-- at most how many rows answer an item, by what is seen of the state: for the end one for each entry
abbrev pub most_by : StateView → Item → ℕ
most_by s (item.Row stamp row) = most_rows s.spec
most_by s (item.Mark stamp) = 0
most_by s (item.End stamp) = length s.entries

-- The form of the edges into a partition: stamps that do not fall, the same marks on each edge, and one end, last.
use Rattle.std.specs.Prelude.{◌≡◌, ◌≤◌, ℕ, Bool, List, [], ◌∷◌, ◌+◌, Option, None, zero, suc, length, slice_get, slice_index_or}
use Rattle.tuple_edge.specs.declared.item.Item.{Item}
use Rattle.tuple_edge.specs.declared.item.Item.TheVariants as item
use Rattle.tuple_edge.specs.Item.{stamp_of}
use Rattle.merge_order.specs.Merged.{has_mark_at}

-- each item has at least this stamp
abbrev pub AllFrom : ℕ → List Item → Type 0
AllFrom stamp [] = Unit {0}
AllFrom stamp (i ∷ is) = (stamp ≤ stamp_of i) × AllFrom stamp is

-- the stamps are from 1 to the last one; they do not fall, and rise after a mark; one end stands last, with the last stamp
abbrev pub IsEdge : ℕ → List Item → Type 0
IsEdge last [] = ⊥
IsEdge last (item.Row stamp row ∷ is) = (1 ≤ stamp) × (stamp ≤ last) × AllFrom stamp is × IsEdge last is
IsEdge last (item.Mark stamp ∷ is) = (1 ≤ stamp) × (stamp ≤ last) × AllFrom (stamp + 1) is × IsEdge last is
IsEdge last (item.End stamp ∷ is) = (1 ≤ stamp) × (stamp ≡ last) × (is ≡ [])

-- edges that carry just these marks
abbrev pub AreAlike : ℕ → (ℕ → Bool) → List (List Item) → Type 0
AreAlike last carries [] = Unit {0}
AreAlike last carries (edge ∷ edges) = IsEdge last edge × ((n : ℕ) → has_mark_at n edge ≡ carries n) × AreAlike last carries edges

-- the edges into a partition: one or more, whose ends have the last stamp, and which carry the same marks
pub record AreEdges (last : ℕ) (edges : List (List Item)) : Type 0 where
  pub some : 1 ≤ length edges
  pub carries : ℕ → Bool
  pub alike : AreAlike last carries edges

-- the edge of source q
abbrev pub edge_of : List (List Item) → ℕ → List Item
edge_of edges q = slice_index_or edges q []

-- the item with this number of an edge; numbers count from 1
abbrev pub item_at : List Item → ℕ → Option Item
item_at edge zero = None
item_at edge (suc n) = slice_get edge n

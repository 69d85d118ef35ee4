-- A merge stands for its marks and its count over edges.
use Rattle.std.specs.Prelude.{◌≡◌, ◌≤◌, ◌<◌, ℕ, List, length, slice_range}
use Rattle.tuple_edge.specs.declared.item.Item.{Item}
use Rattle.merge_order.specs.Edges.{edge_of}
use Rattle.merge_order.specs.Merged.{merged, used}
use Rattle.merge_order.specs.MergeView.{MergeView, mark_of, waiting_of}

-- the items that wait on an edge are those numbered above what was used, up to the mark
pub record WaitsBetween (edge : List Item) (used mark : ℕ) (waiting : List Item) : Type 0 where
  pub used_within : used ≤ mark
  pub mark_within : mark ≤ length edge
  pub waits : waiting ≡ slice_range edge used mark

-- as many items as the count says were merged of these edges, and on each edge wait the items from there to its mark
pub record StandsFor (last : ℕ) (edges : List (List Item)) (m : MergeView) : Type 0 where
  pub count : m.count ≤ length (merged last edges)
  pub marks : length m.marks ≡ length edges
  pub waiting : length m.waiting ≡ length edges
  pub waits : (q : ℕ) → q < length edges → WaitsBetween (edge_of edges q) (used last edges q m.count) (mark_of m q) (waiting_of m q)

-- each edge has taken an item that was not merged
abbrev pub AllBelow : ℕ → List (List Item) → MergeView → Type 0
AllBelow last edges m = (q : ℕ) → q < length edges → used last edges q m.count < mark_of m q

-- each edge has taken all its items
abbrev pub AllTaken : List (List Item) → MergeView → Type 0
AllTaken edges m = (q : ℕ) → q < length edges → mark_of m q ≡ length (edge_of edges q)

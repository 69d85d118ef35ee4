-- How the counts of a merged list run up to the lengths of its edges.
use Rattle.std.specs.Prelude.{◌≡◌, ◌<◌, ℕ, List, length, take}
use Rattle.tuple_edge.specs.declared.item.Item.{Item}
use Rattle.merge_order.specs.Edges.{AreEdges, edge_of}
use Rattle.merge_order.specs.Merged.{items_from, merged, used}

-- As long as the merged list goes on, each edge has an item that is not used; where the list ends, all items of all edges are used.
pub record UsesAll (last : ℕ) (edges : List (List Item)) : Type 0 where
  pub below : (q c : ℕ) → q < length edges → c < length (merged last edges) → used last edges q c < length (edge_of edges q)
  pub whole : (q : ℕ) → q < length edges → used last edges q (length (merged last edges)) ≡ length (edge_of edges q)

-- all items of all edges are used at the end of every merged list
abbrev pub AllAreUsed : Type 0
AllAreUsed = (last : ℕ) (edges : List (List Item)) → AreEdges last edges → UsesAll last edges

-- the items of a source among the first places of the merged list are the first items of its edge, in order: just those that are used
abbrev pub EdgesStayInOrder : Type 0
EdgesStayInOrder = (last : ℕ) (edges : List (List Item)) → AreEdges last edges → (q c : ℕ) → q < length edges
    → items_from q (take c (merged last edges)) ≡ take (used last edges q c) (edge_of edges q)

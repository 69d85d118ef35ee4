-- Offers and merged items in any order.
use Rattle.std.specs.Prelude.{◌≡◌, ◌<◌, ℕ, IsTrue, List, [], ◌∷◌, ◌++◌, Some, ◌↔◌, length, take}
use Rattle.std.specs.Option.{option_to_list}
use Rattle.tuple_edge.specs.declared.item.Item.{Item}
use Rattle.merge_order.specs.Edges.{AreEdges, edge_of, item_at}
use Rattle.merge_order.specs.Merged.{items, merged}
use Rattle.merge_order.specs.MergeView.{MergeView, after_next, after_offer, all_wait, item_of, least, opening}
use Rattle.merge_order.specs.StandsFor.{AllBelow, StandsFor}

-- a call of `offer`, or of `next`
pub data Call : Type 0 where
  Offers : (edge number : ℕ) → (i : Item) → Call
  Nexts : Call

-- a merge after a call
abbrev pub after_call : MergeView → Call → MergeView
after_call m (Offers edge number i) = after_offer m edge number i
after_call m Nexts = after_next m

-- a merge after calls
abbrev pub after_calls : MergeView → List Call → MergeView
after_calls m [] = m
after_calls m (call ∷ calls) = after_calls (after_call m call) calls

-- the item that a call gives, if it gives one
abbrev pub given_by : MergeView → Call → List Item
given_by m (Offers edge number i) = []
given_by m Nexts = option_to_list (item_of (least m.waiting))

-- the items that calls give, in order
abbrev pub given : MergeView → List Call → List Item
given m [] = []
given m (call ∷ calls) = given_by m call ++ given (after_call m call) calls

-- each offer is of an edge that is there, and of its item of that number
abbrev pub AreTrue : List (List Item) → List Call → Type 0
AreTrue edges [] = Unit {0}
AreTrue edges (Offers edge number i ∷ calls) = (edge < length edges) × (item_at (edge_of edges edge) number ≡ Some i) × AreTrue edges calls
AreTrue edges (Nexts ∷ calls) = AreTrue edges calls

-- what a merge has given after calls is the front of the merged list, what waits is what was taken and not merged, and it is
-- ready where each edge has taken an item that was not merged
pub record Merges (last : ℕ) (edges : List (List Item)) (m : MergeView) (calls : List Call) : Type 0 where
  pub front : take (after_calls m calls).count (items (merged last edges)) ≡ take m.count (items (merged last edges)) ++ given m calls
  pub stands : StandsFor last edges (after_calls m calls)
  pub ready : IsTrue (all_wait (after_calls m calls).waiting) ↔ AllBelow last edges (after_calls m calls)

-- it does so after any order of true offers, from any merge that stands for its marks and its count
abbrev pub AnyOrderMerges : Type 0
AnyOrderMerges = (last : ℕ) (edges : List (List Item)) (m : MergeView) (calls : List Call) → AreEdges last edges → StandsFor last edges m → AreTrue edges calls
    → Merges last edges m calls

-- from the beginning: the items given are the first ones of the merged list, as many as the count says
abbrev pub GivesAFront : Type 0
GivesAFront = (last : ℕ) (edges : List (List Item)) (calls : List Call) → AreEdges last edges → AreTrue edges calls
    → given (opening (length edges)) calls ≡ take (after_calls (opening (length edges)) calls).count (items (merged last edges))

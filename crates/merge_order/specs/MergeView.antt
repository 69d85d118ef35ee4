-- What a merge holds, and what an offer and the next merged item make of it.
use Rattle.std.specs.Prelude.{◌≡◌, ◌≢◌, ℕ, Bool, true, false, IsTrue, List, [], ◌∷◌, ◌++◌, Option, None, Some, ◌+◌, ◌==◌, ◌&&◌, nat_le, if◌then◌else◌, drop, fold, length, map, replicate, slice_get, slice_index_or, slice_set}
use Rattle.std.specs.List.{list_all}
use Rattle.tuple_edge.specs.declared.item.Item.{Item}
use Rattle.tuple_edge.specs.declared.item.Item.TheVariants as item
use Rattle.tuple_edge.specs.Item.{comes_before, kind_of, stamp_of}
use Rattle.merge_order.specs.declared.head.Head.{Head}
use Rattle.merge_order.specs.declared.merge.Offer.{Offer}
use Rattle.merge_order.specs.declared.merge.Offer.TheVariants as offer

-- for each edge the number of the last item that it took and the items that wait, and how many items were merged
pub record MergeView : Type 0 where
  pub marks : List ℕ
  pub waiting : List (List Item)
  pub count : ℕ

-- a merge with these marks and this count, where nothing waits
abbrev pub starting : List ℕ → ℕ → MergeView
starting marks count = record { marks = marks; waiting = replicate (length marks) []; count = count }

-- a merge of so many edges that has taken nothing
abbrev pub opening : ℕ → MergeView
opening edges = starting (replicate edges 0) 0

-- the number up to which items of an edge have come
abbrev pub mark_of : MergeView → ℕ → ℕ
mark_of m edge = slice_index_or m.marks edge 0

-- the items of an edge that wait to be merged
abbrev pub waiting_of : MergeView → ℕ → List Item
waiting_of m edge = slice_index_or m.waiting edge []

-- an offer: -------------------------------------------------------------------

-- what an offer of this number is answered where the edge's mark is this
abbrev pub answer_to : ℕ → ℕ → Offer
answer_to number mark = if nat_le number mark then offer.Repeat mark else if number == mark + 1 then offer.Taken else offer.Gap mark

-- what an offer of this number on an edge is answered
abbrev pub offer_of : MergeView → ℕ → ℕ → Offer
offer_of m edge number = answer_to number (mark_of m edge)

-- a merge with one more item that waits last on its edge
abbrev pub with_item : MergeView → ℕ → ℕ → Item → MergeView
with_item m edge number i = record {
  marks = slice_set m.marks edge number;
  waiting = slice_set m.waiting edge (waiting_of m edge ++ i ∷ []);
  count = m.count;
}

-- a merge after an offer: an item is taken where its number follows the mark
abbrev pub after_offer : MergeView → ℕ → ℕ → Item → MergeView
after_offer m edge number i = if number == mark_of m edge + 1 then with_item m edge number i else m

-- the next merged item: ----------------------------------------------------------

-- the heads of edges, the first edge being that of source q
abbrev pub heads_from : ℕ → List (List Item) → List Head
heads_from q [] = []
heads_from q ([] ∷ waiting) = heads_from (q + 1) waiting
heads_from q ((i ∷ is) ∷ waiting) = record { source = q; item = i } ∷ heads_from (q + 1) waiting

-- the lesser of two heads, by stamp, kind and source
abbrev pub lesser : Option Head → Head → Option Head
lesser None head = Some head
lesser (Some other) head = Some (if comes_before head.item other.item head.source other.source then head else other)

-- whether a list of items has one
abbrev pub has_item : List Item → Bool
has_item [] = false
has_item (i ∷ is) = true

-- whether each edge has an item that waits
abbrev pub all_wait : List (List Item) → Bool
all_wait waiting = list_all has_item waiting

-- the least of the heads, where each edge has one
abbrev pub least : List (List Item) → Option Head
least waiting = if all_wait waiting then fold lesser None (heads_from 0 waiting) else None

-- a head comes before the head of each other edge
abbrev pub ComesFirst : List (List Item) → Head → Type 0
ComesFirst waiting head = (q : ℕ) (i : Item) → q ≢ head.source → slice_get (slice_index_or waiting q []) 0 ≡ Some i → IsTrue (comes_before head.item i head.source q)

-- whether two items have one kind and one stamp; two marks or two ends that do are the same item
abbrev pub is_alike : Item → Item → Bool
is_alike i j = (kind_of i == kind_of j) && (stamp_of i == stamp_of j)

-- an edge without its first item, where that is this mark or this end
abbrev pub without : Item → List Item → List Item
without sign [] = []
without sign (i ∷ is) = if is_alike sign i then is else i ∷ is

-- the edges without an item that was merged from a source: a row goes from its own edge, and a mark or an end from each edge that has it first
abbrev pub taken_from : List (List Item) → ℕ → Item → List (List Item)
taken_from waiting source (item.Row stamp row) = slice_set waiting source (drop 1 (slice_index_or waiting source []))
taken_from waiting source (item.Mark stamp) = map (without (item.Mark stamp)) waiting
taken_from waiting source (item.End stamp) = map (without (item.End stamp)) waiting

-- the item of a head, if there is one
abbrev pub item_of : Option Head → Option Item
item_of None = None
item_of (Some head) = Some head.item

-- a merge after its least head was merged, where there is one
abbrev pub after_head : MergeView → Option Head → MergeView
after_head m None = m
after_head m (Some head) = record { marks = m.marks; waiting = taken_from m.waiting head.source head.item; count = m.count + 1 }

-- a merge after its least head was asked for
abbrev pub after_next : MergeView → MergeView
after_next m = after_head m (least m.waiting)

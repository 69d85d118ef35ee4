-- The merged list of the edges into a partition, made by stamps, and how many items of an edge stand in its first places.
use Rattle.std.specs.Prelude.{ℕ, zero, suc, Bool, true, false, List, [], ◌∷◌, ◌++◌, Option, None, Some, ◌+◌, ◌==◌, if◌then◌else◌, count_by, filter, map, take}
use Rattle.std.specs.List.{list_any}
use Rattle.tuple_edge.specs.declared.item.Item.{Item}
use Rattle.tuple_edge.specs.declared.item.Item.TheVariants as item

-- a place of a merged list: the item that stands there, and the source of its edge; a mark or an end comes from each source
pub record Place : Type 0 where
  pub source : Option ℕ
  pub item : Item

-- whether an item is a row of stamp n
abbrev pub is_row_at : ℕ → Item → Bool
is_row_at n (item.Row stamp row) = stamp == n
is_row_at n (item.Mark stamp) = false
is_row_at n (item.End stamp) = false

-- whether an item is the mark of stamp n
abbrev pub is_mark_at : ℕ → Item → Bool
is_mark_at n (item.Row stamp row) = false
is_mark_at n (item.Mark stamp) = stamp == n
is_mark_at n (item.End stamp) = false

-- whether an edge carries the mark of stamp n
abbrev pub has_mark_at : ℕ → List Item → Bool
has_mark_at n edge = list_any (is_mark_at n) edge

-- the rows of stamp n on the edge of source q, in order
abbrev pub rows_at : ℕ → ℕ → List Item → List Place
rows_at n q edge = map (λ i. record { source = Some q; item = i }) (filter (is_row_at n) edge)

-- the rows of stamp n on these edges, source by source, the first being source q
abbrev pub all_rows_at : ℕ → ℕ → List (List Item) → List Place
all_rows_at n q [] = []
all_rows_at n q (edge ∷ edges) = rows_at n q edge ++ all_rows_at n (q + 1) edges

-- the mark of stamp n, once, where the edges carry it
abbrev pub mark_at : ℕ → List (List Item) → List Place
mark_at n edges = if list_any (has_mark_at n) edges then record { source = None; item = item.Mark n } ∷ [] else []

-- what the edges have of stamp n: the rows, and then the mark
abbrev pub stamp_at : ℕ → List (List Item) → List Place
stamp_at n edges = all_rows_at n 0 edges ++ mark_at n edges

-- the same for the stamps from 1 to n, in order
abbrev pub stamps_upto : ℕ → List (List Item) → List Place
stamps_upto zero edges = []
stamps_upto (suc n) edges = stamps_upto n edges ++ stamp_at (suc n) edges

-- the merged list of edges whose end has the last stamp
abbrev pub merged : ℕ → List (List Item) → List Place
merged last edges = stamps_upto last edges ++ record { source = None; item = item.End last } ∷ []

-- the items of places
abbrev pub items : List Place → List Item
items places = map (λ place. place.item) places

-- whether a place holds an item of source q
abbrev pub is_from : ℕ → Option ℕ → Bool
is_from q None = true
is_from q (Some source) = source == q

-- how many places hold an item of source q
abbrev pub count_of : ℕ → List Place → ℕ
count_of q places = count_by (λ place. is_from q place.source) places

-- the items of source q among places, in order; a mark or an end is each source's
abbrev pub items_from : ℕ → List Place → List Item
items_from q places = items (filter (λ place. is_from q place.source) places)

-- how many items of source q stand in the first places of the merged list
abbrev pub used : ℕ → List (List Item) → ℕ → ℕ → ℕ
used last edges q count = count_of q (take count (merged last edges))

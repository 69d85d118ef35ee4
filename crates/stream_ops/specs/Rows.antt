-- The rows among items, and their keys.
use Rattle.std.specs.Prelude.{List, [], ◌∷◌, fold}
use Rattle.std.specs.List.{filter}
use Rattle.std.specs.Ordering.{match_ordering}
use Rattle.tuple_edge.specs.declared.item.Item.{Item}
use Rattle.tuple_edge.specs.declared.item.Item.TheVariants as item
use Rattle.tuple_edge.specs.declared.row.Key.{Key}
use Rattle.tuple_edge.specs.declared.row.Row.{Row}
use Rattle.op_spec.specs.Keys.{key_of, key_cmp, is_key}
use Rattle.op_spec.specs.declared.spec.By.{By}

-- the rows among items, in order
abbrev pub rows_of : List Item → List Row
rows_of [] = []
rows_of (item.Row stamp row ∷ items) = row ∷ rows_of items
rows_of (item.Mark stamp ∷ items) = rows_of items
rows_of (item.End stamp ∷ items) = rows_of items

-- the rows of a key among items, in order
abbrev pub rows_with : By → List Item → Key → List Row
rows_with by items k = filter (λ r. is_key (key_of by r) k) (rows_of items)

-- keys in their order, each once, with one more
abbrev pub with_key : Key → List Key → List Key
with_key k [] = k ∷ []
with_key k (q ∷ keys) = match_ordering (key_cmp k q) (k ∷ q ∷ keys) (q ∷ keys) (q ∷ with_key k keys)

-- the keys of rows, in their order, each once
abbrev pub keys_among : By → List Row → List Key
keys_among by rows = fold (λ keys r. with_key (key_of by r) keys) [] rows

-- the keys of the rows among items, in their order, each once
abbrev pub keys_in : By → List Item → List Key
keys_in by items = keys_among by (rows_of items)

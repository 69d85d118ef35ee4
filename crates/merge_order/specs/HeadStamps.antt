-- The stamps by which the least head is looked for, and the count of the edges where nothing waits.
use Rattle.std.specs.Prelude.{ℕ, Bool, false, List, [], ◌∷◌, if◌then◌else◌, sum_by}
use Rattle.tuple_edge.specs.declared.item.Item.{Item}
use Rattle.tuple_edge.specs.Item.{stamp_of}
use Rattle.merge_order.specs.MergeView.{has_item, is_alike}

-- the stamp of the head of an edge, or 0 where nothing waits
abbrev pub head_stamp : List Item → ℕ
head_stamp [] = 0
head_stamp (i ∷ is) = stamp_of i

-- on how many edges nothing waits
abbrev pub empty_count : List (List Item) → ℕ
empty_count waiting = sum_by (λ w. if has_item w then 0 else 1) waiting

-- whether an edge has this mark or this end first
abbrev pub starts_with : Item → List Item → Bool
starts_with sign [] = false
starts_with sign (i ∷ is) = is_alike sign i

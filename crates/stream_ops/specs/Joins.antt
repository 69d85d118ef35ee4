-- The rows that a join pairs and keeps, and the row that tells of two.
use Rattle.std.specs.Prelude.{ℕ, ℤ, Bool, not, List, [], ◌∷◌, ◌++◌, ◌+◌, Option, option_map, map, if◌then◌else◌}
use Rattle.std.specs.List.{filter}
use Rattle.std.specs.Ordering.{int_eq}
use Rattle.circular_buffer.specs.Buffer.{keep_last}
use Rattle.keyed_store.specs.Join.{sides_of}
use Rattle.keyed_store.specs.Store.{StoreView}
use Rattle.keyed_store.specs.declared.rows.JoinKey.{JoinKey}
use Rattle.keyed_store.specs.declared.rows.Kept.{Kept}
use Rattle.keyed_store.specs.declared.rows.Pair.{Pair}
use Rattle.keyed_store.specs.declared.rows.SideRow.{SideRow}
use Rattle.keyed_store.specs.declared.rows.SidedRow.{SidedRow}
use Rattle.keyed_store.specs.declared.rows.Sides.{Sides}
use Rattle.tuple_edge.specs.Row.{column_of}
use Rattle.tuple_edge.specs.declared.packet.Entry.{Entry}
use Rattle.tuple_edge.specs.declared.packet.Entry.TheVariants as entry
use Rattle.tuple_edge.specs.declared.row.Column.{Column}
use Rattle.tuple_edge.specs.declared.row.Key.{Key}
use Rattle.tuple_edge.specs.declared.row.Row.{Row}
use Rattle.op_spec.specs.Compares.{holds}
use Rattle.op_spec.specs.declared.spec.Compare.{Compare}
use Rattle.stream_ops.specs.Limits.{first_right_slot}
use Rattle.stream_ops.specs.Sums.{amounts, sums_row, sums_with}
use Rattle.stream_ops.specs.Windows.{window_of}
use Rattle.stream_ops.specs.declared.sums.Sums.{Sums}

-- a row is left where its column compares so with the limit, and right where it does not
abbrev pub is_left : Column → Compare → ℤ → Row → Bool
is_left column compare limit r = holds compare (column_of column r) limit

-- those of these rows that are left
abbrev pub left_rows : (Row → Bool) → List Row → List Row
left_rows left rows = filter left rows

-- those of these rows that are right
abbrev pub right_rows : (Row → Bool) → List Row → List Row
right_rows left rows = filter (λ r. not (left r)) rows

-- the rows of the side that a row is not of
abbrev pub rows_across : (Row → Bool) → Row → List Row → List Row
rows_across left r rows = if left r then right_rows left rows else left_rows left rows

-- the row that tells of two rows of a key: the sums of both, at the time of the one that is answered
abbrev pub pair_row : Key → Row → Row → Row
pair_row k r other = sums_row r.time k (sums_with (amounts r) (amounts other))

-- a join answers a key's row with its pairs: of the last n rows of the other side with those that lie in its window, oldest first
abbrev pub join_answer : ℤ → ℕ → (Row → Bool) → Key → List Row → Row → List Row
join_answer width n left k rows r = map (pair_row k r) (filter (λ other. int_eq (window_of width other) (window_of width r)) (keep_last n (rows_across left r rows)))

-- ---- in the words of the crate below

-- a key, in the words of a join
abbrev pub join_key : Key → JoinKey
join_key k = record { account = k.account; symbol = k.symbol }

-- a key of a join, in the words of operators
abbrev pub key_of_join : JoinKey → Key
key_of_join k = record { account = k.account; symbol = k.symbol }

-- what a join keeps of a row
abbrev pub side_row : ℤ → Row → SideRow
side_row width r = record { qty = r.qty; value = r.value; window = window_of width r }

-- what a join keeps of a row, with its side
abbrev pub sided_row : ℤ → (Row → Bool) → Row → SidedRow
sided_row width left r = record { left = left r; row = side_row width r }

-- the row that tells of a pair
abbrev pub row_of_pair : ℤ → Key → Pair → Row
row_of_pair time k p = sums_row time k (record { qty = p.qty; value = p.value })

-- the entry of a row that is kept
abbrev pub entry_of_kept : Kept → Entry
entry_of_kept x = entry.Keyed (key_of_join x.key) x.slot x.qty x.value x.window

-- the row of which an entry tells
abbrev pub kept_row : Key → ℕ → Sums → ℤ → Kept
kept_row k slot sums window = record { key = join_key k; slot = slot; qty = sums.qty; value = sums.value; window = window }

-- what a join keeps of a key's rows, where there is one
abbrev pub sides_of_rows : ℤ → ℕ → (Row → Bool) → List Row → Option Sides
sides_of_rows width n left rows = sides_of n (map (sided_row width left) rows)

-- what tells of a row of one side, at a slot
abbrev pub side_entry : Key → ℕ → SideRow → Entry
side_entry k slot r = entry.Keyed k slot r.qty r.value r.window

-- what tells of the rows of one side, from a slot on
abbrev pub told_side : Key → ℕ → List SideRow → List Entry
told_side k slot [] = []
told_side k slot (r ∷ rows) = side_entry k slot r ∷ told_side k (slot + 1) rows

-- what tells of both sides of a key
abbrev pub told_sides : Key → Sides → List Entry
told_sides k s = told_side k 0 s.left.items ++ told_side k first_right_slot s.right.items

-- what is kept, by the keys of rows
abbrev pub by_key : {X : Type 0} → List (JoinKey × X) → List (Key × X)
by_key kept = map (λ e. (key_of_join e.0, e.1)) kept

-- what a join keeps, and what it kept when the watch began, by the keys of rows
abbrev pub keyed : {X : Type 0} → StoreView JoinKey X → StoreView Key X
keyed s = record { kept = by_key s.kept; old = option_map by_key s.old }

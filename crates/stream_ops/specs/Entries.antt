-- The entries by which an operator's state goes to another replica: what it keeps of each key, as numbers.
use Rattle.std.specs.Prelude.{ℕ, ℤ, pos, zero, suc, ◌+◌, Bool, true, false, List, [], ◌∷◌, ◌++◌, Option, Some, None, flat_map, map, slice_get}
use Rattle.std.specs.Option.{IsSome, option_and_then, option_map}
use Rattle.keyed_store.specs.Join.{or_else}
use Rattle.keyed_store.specs.Store.{old_first, old_value}
use Rattle.std.specs.Ordering.{is_gt, nat_cmp, ordering_then}
use Rattle.std.specs.declared.ops.Bound.{Bound}
use Rattle.std.specs.declared.ops.Bound.TheVariants.{Excluded, Unbounded}
use Rattle.circular_buffer.specs.Buffer.{Buffer, keep_last}
use Rattle.tuple_edge.specs.declared.item.Item.{Item}
use Rattle.tuple_edge.specs.declared.packet.Entry.{Entry}
use Rattle.tuple_edge.specs.declared.packet.Entry.TheVariants as entry
use Rattle.tuple_edge.specs.declared.row.Key.{Key}
use Rattle.tuple_edge.specs.declared.row.Row.{Row}
use Rattle.op_spec.specs.Keys.{key_cmp}
use Rattle.op_spec.specs.declared.spec.OpSpec.{OpSpec}
use Rattle.op_spec.specs.declared.spec.OpSpec.TheVariants as op
use Rattle.stream_ops.specs.Joins.{is_left, left_rows, right_rows}
use Rattle.stream_ops.specs.Limits.{first_right_slot}
use Rattle.stream_ops.specs.Rows.{rows_with}
use Rattle.stream_ops.specs.Kept.{keys_after, open_window}
use Rattle.stream_ops.specs.Sums.{amounts, sums_of}
use Rattle.stream_ops.specs.Windows.{window_of}
use Rattle.stream_ops.specs.declared.sums.Sums.{Sums}
use Rattle.stream_ops.specs.declared.window.OpenWindow.{OpenWindow}

-- sums of a key at a slot; a window tells its number too
abbrev pub sums_entry : Key → ℕ → Sums → ℤ → Entry
sums_entry k slot sums number = entry.Keyed k slot sums.qty sums.value number

-- the amounts of rows, oldest first, one at each slot from the first one on
abbrev pub slots : Key → ℕ → List Sums → List Entry
slots k slot [] = []
slots k slot (s ∷ more) = sums_entry k slot s (pos 0) ∷ slots k (slot + 1) more

-- rows of one side, oldest first, one at each slot from the first one on; each tells its window too
abbrev pub side_slots : ℤ → Key → ℕ → List Row → List Entry
side_slots width k slot [] = []
side_slots width k slot (r ∷ rows) = sums_entry k slot (amounts r) (window_of width r) ∷ side_slots width k (slot + 1) rows

-- what an operator keeps of a key after these items: its sums, its last rows, its open window, or its last rows of each side
abbrev pub key_entries : OpSpec → List Item → Key → List Entry
key_entries (op.Keep column compare limit) items k = []
key_entries (op.Total by) items k = sums_entry k 0 (sums_of (rows_with by items k)) (pos 0) ∷ []
key_entries (op.Last by n) items k = slots k 0 (map amounts (keep_last n (rows_with by items k)))
key_entries (op.Window by width) items k =
    sums_entry k 0 (open_window width (rows_with by items k)).sums (open_window width (rows_with by items k)).number ∷ []
key_entries (op.Crossing by limit) items k = sums_entry k 0 (sums_of (rows_with by items k)) (pos 0) ∷ []
key_entries (op.Join by width n column compare limit) items k =
    side_slots width k 0 (keep_last n (left_rows (is_left column compare limit) (rows_with by items k)))
    ++ side_slots width k first_right_slot (keep_last n (right_rows (is_left column compare limit) (rows_with by items k)))

-- what an operator keeps after these items, in the order of keys and slots
abbrev pub entries : OpSpec → List Item → List Entry
entries spec items = flat_map (key_entries spec items) (keys_after spec items)

-- what tells of a key's sums
abbrev pub told_total : Key → Sums → List Entry
told_total k s = sums_entry k 0 s (pos 0) ∷ []

-- what tells of a key's last rows
abbrev pub told_last : Key → Buffer Sums → List Entry
told_last k b = slots k 0 b.items

-- what tells of a key's open window
abbrev pub told_window : Key → OpenWindow → List Entry
told_window k o = sums_entry k 0 o.sums o.number ∷ []

-- what tells of all that is kept
abbrev pub all_told : {X : Type 0} → (Key → X → List Entry) → List (Key × X) → List Entry
all_told told kept = flat_map (λ e. told e.0 e.1) kept

-- whether an entry's key and slot are above these
abbrev pub is_after : Option (Key × ℕ) → Entry → Bool
is_after None e = true
is_after (Some at) (entry.Keyed k slot a b c) = is_gt (ordering_then (key_cmp k at.0) (nat_cmp slot at.1))
is_after (Some at) (entry.Mark edge upto) = false
is_after (Some at) (entry.Count count) = false
is_after (Some at) (entry.Head edge number item) = false
is_after (Some at) (entry.Low edge upto produced) = false
is_after (Some at) (entry.Kept edge number item) = false

-- the keys above these
abbrev pub bound_after : Option (Key × ℕ) → Bound Key
bound_after None = Unbounded
bound_after (Some at) = Excluded at.0

-- the entry of the first of a key's last rows
abbrev pub first_slot : Key → Buffer Sums → Option Entry
first_slot k b = option_map (λ s. sums_entry k 0 s (pos 0)) (slice_get b.items 0)

-- the entry of the one of a key's last rows that stands after a slot
abbrev pub next_slot : Key → ℕ → Buffer Sums → Option Entry
next_slot k slot b = option_map (λ s. sums_entry k (slot + 1) s (pos 0)) (slice_get b.items (slot + 1))

-- the next entry of last rows, of the same key
abbrev pub same_key_after : Option (Key × ℕ) → Option (List (Key × Buffer Sums)) → Option Entry
same_key_after None old = None
same_key_after (Some at) old = option_and_then (next_slot at.0 at.1) (old_value key_cmp at.0 old)

-- the next entry of last rows: of the same key, or the first one of a later key
abbrev pub last_after : Option (Key × ℕ) → Option (List (Key × Buffer Sums)) → Option Entry
last_after after old = or_else (same_key_after after old) (option_and_then (λ e. first_slot e.0 e.1) (old_first key_cmp (bound_after after) old))

-- ---- the place of an entry

-- the key and the slot of an operator's entry
abbrev pub place_of : Entry → Option (Key × ℕ)
place_of (entry.Keyed k slot a b c) = Some (k, slot)
place_of (entry.Mark edge upto) = None
place_of (entry.Count count) = None
place_of (entry.Head edge number item) = None
place_of (entry.Low edge upto produced) = None
place_of (entry.Kept edge number item) = None

-- an entry is an operator's
abbrev pub IsKeyed : Entry → Type 0
IsKeyed e = IsSome (place_of e)

-- the place of the last of the first n entries; of none there is none
abbrev pub last_place : ℕ → List Entry → Option (Key × ℕ)
last_place zero es = None
last_place (suc n) es = option_and_then place_of (slice_get es n)

-- What an operator keeps, as entries, and what is always true of it.
use Rattle.std.specs.Prelude.{ℕ, ℤ, ◌≡◌, ◌≤◌, ◌*ℤ◌, List, [], Option, Some, None, length, if◌then◌else◌}
use Rattle.std.specs.List.{All}
use Rattle.std.specs.Map.{values_of}
use Rattle.std.specs.Option.{IfSome, option_map}
use Rattle.circular_buffer.specs.Buffer.{Buffer}
use Rattle.keyed_store.specs.Join.{AreSides}
use Rattle.keyed_store.specs.Store.{IsSorted, StoreView}
use Rattle.tuple_edge.specs.declared.item.Item.{Item}
use Rattle.tuple_edge.specs.declared.packet.Entry.{Entry}
use Rattle.tuple_edge.specs.declared.row.Key.{Key}
use Rattle.op_spec.specs.Keys.{key_cmp}
use Rattle.op_spec.specs.Spec.{IsSpec}
use Rattle.op_spec.specs.declared.spec.OpSpec.{OpSpec}
use Rattle.op_spec.specs.declared.spec.OpSpec.TheVariants as op
use Rattle.stream_ops.specs.Entries.{all_told, told_last, told_total, told_window}
use Rattle.stream_ops.specs.Joins.{is_left, keyed, sides_of_rows, told_sides}
use Rattle.stream_ops.specs.Kept.{Keeps, last_of_rows, total_of_rows, window_of_rows}
use Rattle.stream_ops.specs.State.{StateView}
use Rattle.stream_ops.specs.declared.operator.Operator.{Operator}
use Rattle.stream_ops.specs.declared.operator.Operator.TheVariants as operator
use Rattle.stream_ops.specs.declared.sums.Sums.{Sums}
use Rattle.stream_ops.specs.declared.window.OpenWindow.{OpenWindow}

-- an operator's settings
abbrev pub spec_of : Operator → OpSpec
spec_of (operator.Keep column compare limit watched) = op.Keep column compare limit
spec_of (operator.Total by totals) = op.Total by
spec_of (operator.Last by rows last_rows count) = op.Last by rows
spec_of (operator.Window by width windows) = op.Window by width
spec_of (operator.Crossing by limit totals) = op.Crossing by limit
spec_of (operator.Join by width column compare limit join) = op.Join by width join.rows column compare limit

-- what it keeps, as entries
abbrev pub entries_of : Operator → List Entry
entries_of (operator.Keep column compare limit watched) = []
entries_of (operator.Total by totals) = all_told told_total totals.kept
entries_of (operator.Last by rows last_rows count) = all_told told_last last_rows.kept
entries_of (operator.Window by width windows) = all_told told_window windows.kept
entries_of (operator.Crossing by limit totals) = all_told told_total totals.kept
entries_of (operator.Join by width column compare limit join) = all_told told_sides (keyed join.sides).kept

-- its entries when the watch began
abbrev pub old_of : Operator → Option (List Entry)
old_of (operator.Keep column compare limit watched) = if watched then Some [] else None
old_of (operator.Total by totals) = option_map (all_told told_total) totals.old
old_of (operator.Last by rows last_rows count) = option_map (all_told told_last) last_rows.old
old_of (operator.Window by width windows) = option_map (all_told told_window) windows.old
old_of (operator.Crossing by limit totals) = option_map (all_told told_total) totals.old
old_of (operator.Join by width column compare limit join) = option_map (all_told told_sides) (keyed join.sides).old

-- what contracts see of an operator: its settings, its entries, and those when the watch began
abbrev pub seen : Operator → StateView
seen o = record { spec = spec_of o; entries = entries_of o; old = old_of o }

-- sums are right in themselves, whatever they are
abbrev pub IsAnySums : Sums → Type 0
IsAnySums s = Unit {0}

-- an open window starts where its number and its width say
abbrev pub IsWindow : ℤ → OpenWindow → Type 0
IsWindow width o = o.start ≡ o.number *ℤ width

-- there are 1 to n last rows, with room for n
abbrev pub AreLast : ℕ → Buffer Sums → Type 0
AreLast n b = (b.capacity ≡ n) × (1 ≤ length b.items) × (length b.items ≤ n)

-- the keys are in order, and what is kept for each is right
abbrev pub AreRight : {X : Type 0} → (X → Type 0) → List (Key × X) → Type 0
AreRight right es = IsSorted key_cmp es × All right (values_of es)

-- what is kept is right, and so is what was kept when the watch began
abbrev pub IsRight : {X : Type 0} → (X → Type 0) → StoreView Key X → Type 0
IsRight right s = AreRight right s.kept × IfSome s.old (AreRight right)

-- what is always true of an operator
abbrev pub IsSound : Operator → Type 0
IsSound (operator.Keep column compare limit watched) = Unit {0}
IsSound (operator.Total by totals) = IsRight IsAnySums totals
IsSound (operator.Last by rows last_rows count) = IsSpec (op.Last by rows) × IsRight (AreLast rows) last_rows × (count ≡ length (all_told told_last last_rows.kept))
IsSound (operator.Window by width windows) = IsSpec (op.Window by width) × IsRight (IsWindow width) windows
IsSound (operator.Crossing by limit totals) = IsSpec (op.Crossing by limit) × IsRight IsAnySums totals
IsSound (operator.Join by width column compare limit join) = IsSpec (op.Join by width join.rows column compare limit) × IsRight (AreSides join.rows) (keyed join.sides)

-- what an operator keeps is that of these items
abbrev pub KeepsOf : Operator → List Item → Type 0
KeepsOf (operator.Keep column compare limit watched) items = Unit {0}
KeepsOf (operator.Total by totals) items = Keeps total_of_rows by totals.kept items
KeepsOf (operator.Last by rows last_rows count) items = Keeps (last_of_rows rows) by last_rows.kept items
KeepsOf (operator.Window by width windows) items = Keeps (window_of_rows width) by windows.kept items
KeepsOf (operator.Crossing by limit totals) items = Keeps total_of_rows by totals.kept items
KeepsOf (operator.Join by width column compare limit join) items = Keeps (sides_of_rows width join.rows (is_left column compare limit)) by (keyed join.sides).kept items

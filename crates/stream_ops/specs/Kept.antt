-- What an operator keeps of the rows of a key.
use Rattle.std.specs.Prelude.{ℕ, ℤ, ◌≡◌, ◌*ℤ◌, List, [], ◌∷◌, Option, Some, None, map}
use Rattle.std.specs.Map.{lookup, keys_of}
use Rattle.circular_buffer.specs.Buffer.{Buffer, buffer, keep_last}
use Rattle.tuple_edge.specs.declared.item.Item.{Item}
use Rattle.tuple_edge.specs.declared.row.Key.{Key}
use Rattle.tuple_edge.specs.declared.row.Row.{Row}
use Rattle.op_spec.specs.Keys.{is_key}
use Rattle.op_spec.specs.declared.spec.By.{By}
use Rattle.op_spec.specs.declared.spec.OpSpec.{OpSpec}
use Rattle.op_spec.specs.declared.spec.OpSpec.TheVariants as op
use Rattle.stream_ops.specs.Rows.{keys_in, rows_with}
use Rattle.stream_ops.specs.Sums.{amounts, sums_of}
use Rattle.stream_ops.specs.Windows.{level, rows_at}
use Rattle.stream_ops.specs.declared.sums.Sums.{Sums}
use Rattle.stream_ops.specs.declared.window.OpenWindow.{OpenWindow}

-- the sums of a key's rows, where there is one
abbrev pub total_of_rows : List Row → Option Sums
total_of_rows [] = None
total_of_rows (r ∷ rows) = Some (sums_of (r ∷ rows))

-- the last n of a key's rows, where there is one
abbrev pub last_of_rows : ℕ → List Row → Option (Buffer Sums)
last_of_rows n [] = None
last_of_rows n (r ∷ rows) = Some (buffer (keep_last n (map amounts (r ∷ rows))) n)

-- the open window of a key's rows: the last level, its start, and the sums of the rows of that level
abbrev pub open_window : ℤ → List Row → OpenWindow
open_window width rows =
    record { number = level width rows; start = level width rows *ℤ width; sums = sums_of (rows_at width (level width rows) rows) }

-- the open window of a key's rows, where there is one
abbrev pub window_of_rows : ℤ → List Row → Option OpenWindow
window_of_rows width [] = None
window_of_rows width (r ∷ rows) = Some (open_window width (r ∷ rows))

-- for each key of the rows among items, in the order of keys, this is kept of the key's rows
pub record Keeps {X : Type 0} (kept_of : List Row → Option X) (by : By) (kept : List (Key × X)) (items : List Item) : Type 0 where
  pub values : (k : Key) → lookup (is_key k) kept ≡ kept_of (rows_with by items k)
  pub keys : keys_of kept ≡ keys_in by items

-- the keys for which an operator keeps something after these items, in their order
abbrev pub keys_after : OpSpec → List Item → List Key
keys_after (op.Keep column compare limit) items = []
keys_after (op.Total by) items = keys_in by items
keys_after (op.Last by n) items = keys_in by items
keys_after (op.Window by width) items = keys_in by items
keys_after (op.Crossing by limit) items = keys_in by items
keys_after (op.Join by width n column compare limit) items = keys_in by items

-- How one more row changes what is kept for its key.
use Rattle.std.specs.Prelude.{ℕ, ℤ, pos, ◌*ℤ◌, List, [], ◌∷◌, ◌++◌, Option, Some, None, unwrap_or, fold, length, nat_lt, Bool, true, if◌then◌else◌, int_lt}
use Rattle.circular_buffer.specs.Buffer.{Buffer, buffer, keep_last}
use Rattle.tuple_edge.specs.declared.row.Key.{Key}
use Rattle.tuple_edge.specs.declared.row.Row.{Row}
use Rattle.stream_ops.specs.Sums.{amounts, crosses, sums_row, sums_with}
use Rattle.stream_ops.specs.Windows.{window_of}
use Rattle.stream_ops.specs.declared.sums.Sums.{Sums}
use Rattle.stream_ops.specs.declared.window.OpenWindow.{OpenWindow}

-- the sums of no rows
abbrev pub no_sums : Sums
no_sums = record { qty = pos 0; value = pos 0 }

-- a key's sums after one more row
abbrev pub total_with : Option Sums → Row → Sums
total_with had r = sums_with (unwrap_or had no_sums) (amounts r)

-- the last amounts of a key after one more
abbrev pub last_added : ℕ → Option (Buffer Sums) → Sums → Buffer Sums
last_added n None s = buffer (keep_last n (s ∷ [])) n
last_added n (Some b) s = buffer (keep_last b.capacity (b.items ++ s ∷ [])) b.capacity

-- whether the last rows of a key get one longer by one more
abbrev pub has_room : ℕ → Option (Buffer Sums) → Bool
has_room n None = true
has_room n (Some b) = nat_lt (length b.items) n

-- a key's last rows after one more row
abbrev pub last_with : ℕ → Option (Buffer Sums) → Row → Buffer Sums
last_with n had r = last_added n had (amounts r)

-- the sums of a key's last rows
abbrev pub sums_last : Option (Buffer Sums) → Sums
sums_last None = no_sums
sums_last (Some b) = fold sums_with no_sums b.items

-- a window that one row has opened
abbrev pub opened_by : ℤ → Row → OpenWindow
opened_by width r = record { number = window_of width r; start = window_of width r *ℤ width; sums = sums_with no_sums (amounts r) }

-- a key's opened window after one more row, which alone would open `next`
abbrev pub window_with : Option OpenWindow → OpenWindow → Row → OpenWindow
window_with None next r = next
window_with (Some opened) next r =
    if int_lt opened.number next.number then next else record { number = opened.number; start = opened.start; sums = sums_with opened.sums (amounts r) }

-- the window that the row closes
abbrev pub closed_by : Option OpenWindow → OpenWindow → Option OpenWindow
closed_by None next = None
closed_by (Some opened) next = if int_lt opened.number next.number then Some opened else None

-- the row that tells of a window
abbrev pub told_window_row : Key → OpenWindow → Row
told_window_row k opened = sums_row opened.start k opened.sums

-- the row that tells of the window that was closed, if any
abbrev pub told_closed : Key → Option OpenWindow → List Row
told_closed k None = []
told_closed k (Some opened) = told_window_row k opened ∷ []

-- the row that tells the sums after a row, where exactly one of the values before and after is above the limit
abbrev pub told_crossing : ℤ → Key → ℤ → Sums → Sums → List Row
told_crossing limit k time before after = if crosses limit before.value after.value then sums_row time k after ∷ [] else []

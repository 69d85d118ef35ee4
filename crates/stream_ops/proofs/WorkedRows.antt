-- The definitions on lists that are worked out by hand.
use Rattle.std.proofs.Common.{◌≡◌, ℕ, ℤ, pos, negsuc, List, [], ◌∷◌, refl}
use Rattle.tuple_edge.specs.declared.item.Item.{Item}
use Rattle.tuple_edge.specs.declared.item.Item.TheVariants as item
use Rattle.tuple_edge.specs.declared.packet.Entry.TheVariants as entry
use Rattle.tuple_edge.specs.declared.row.Column.TheVariants as column
use Rattle.tuple_edge.specs.declared.row.Key.{Key}
use Rattle.tuple_edge.specs.declared.row.Row.{Row}
use Rattle.op_spec.specs.declared.spec.By.TheVariants as by
use Rattle.op_spec.specs.declared.spec.Compare.TheVariants as compare
use Rattle.op_spec.specs.declared.spec.OpSpec.{OpSpec}
use Rattle.op_spec.specs.declared.spec.OpSpec.TheVariants as op
use Rattle.stream_ops.specs.Answers.{answers}
use Rattle.stream_ops.specs.Entries.{entries}

abbrev row : ℕ → ℕ → ℕ → ℤ → ℤ → Row
row time account symbol qty value = record { time = pos time; account = pos account; symbol = pos symbol; qty = qty; value = value }

abbrev key : ℕ → ℕ → Key
key account symbol = record { account = pos account; symbol = pos symbol }

-- trades of account 7 and of account 3, and the mark between them
abbrev trades : List Item
trades =
    item.Row 1 (row 34201 7 1 (pos 1) (pos 100))
    ∷ item.Row 2 (row 34203 7 1 (pos 2) (pos 200))
    ∷ item.Mark 2
    ∷ item.Row 3 (row 34260 3 2 (negsuc 3) (negsuc 49))
    ∷ item.Row 4 (row 34261 7 2 (pos 5) (pos 50))
    ∷ []

-- ---- what each operator keeps of these

none_kept : entries (op.Keep column.Qty compare.Greater (pos 1)) trades ≡ []
none_kept = refl

totals_kept : entries (op.Total by.Account) trades ≡ entry.Keyed (key 3 0) 0 (negsuc 3) (negsuc 49) (pos 0) ∷ entry.Keyed (key 7 0) 0 (pos 8) (pos 350) (pos 0) ∷ []
totals_kept = refl

last_kept : entries (op.Last by.Account 2) trades
    ≡ entry.Keyed (key 3 0) 0 (negsuc 3) (negsuc 49) (pos 0)
    ∷ entry.Keyed (key 7 0) 0 (pos 2) (pos 200) (pos 0)
    ∷ entry.Keyed (key 7 0) 1 (pos 5) (pos 50) (pos 0)
    ∷ []
last_kept = refl

-- windows 570 and 571 of a minute
window_kept : entries (op.Window by.Both (pos 60)) trades
    ≡ entry.Keyed (key 3 2) 0 (negsuc 3) (negsuc 49) (pos 571)
    ∷ entry.Keyed (key 7 1) 0 (pos 3) (pos 300) (pos 570)
    ∷ entry.Keyed (key 7 2) 0 (pos 5) (pos 50) (pos 571)
    ∷ []
window_kept = refl

crossing_kept : entries (op.Crossing by.Symbol (pos 100)) trades ≡ entry.Keyed (key 0 1) 0 (pos 3) (pos 300) (pos 0) ∷ entry.Keyed (key 0 2) 0 (pos 1) (pos 0) (pos 0) ∷ []
crossing_kept = refl

-- ---- a join of movements of cash, which have symbol 0, with trades

abbrev by_minute : OpSpec
by_minute = op.Join by.Account (pos 60) 2 column.Symbol compare.Equal (pos 0)

abbrev cash_and_trades : List Item
cash_and_trades =
    item.Row 1 (row 34200 7 0 (pos 0) (pos 500))
    ∷ item.Row 2 (row 34201 7 1 (pos 1) (pos 100))
    ∷ item.Row 3 (row 34202 7 0 (pos 0) (negsuc 99))
    ∷ item.Row 4 (row 34203 7 1 (pos 2) (pos 200))
    ∷ item.Row 5 (row 34260 7 0 (pos 0) (pos 900))
    ∷ []

joined_rows : answers by_minute [] cash_and_trades
    ≡ row 34201 7 0 (pos 1) (pos 600)
    ∷ row 34202 7 0 (pos 1) (pos 0)
    ∷ row 34203 7 0 (pos 2) (pos 700)
    ∷ row 34203 7 0 (pos 2) (pos 100)
    ∷ []
joined_rows = refl

both_sides_kept : entries by_minute cash_and_trades
    ≡ entry.Keyed (key 7 0) 0 (pos 0) (negsuc 99) (pos 570)
    ∷ entry.Keyed (key 7 0) 1 (pos 0) (pos 900) (pos 571)
    ∷ entry.Keyed (key 7 0) 4 (pos 1) (pos 100) (pos 570)
    ∷ entry.Keyed (key 7 0) 5 (pos 2) (pos 200) (pos 570)
    ∷ []
both_sides_kept = refl

-- What is said of trades and of cash movements that are refused.
use Rattle.std.specs.Prelude.{ℕ, Bool, ◌+◌, ◌/◌, ◌||◌, ◌==◌, List, ◌++◌, length, Option, codes, if◌then◌else◌}
use Rattle.std.specs.Fmt.{decimal}
use Rattle.csv.specs.Reading.{strip_bom}
use Rattle.trade_text.specs.Cash.{cash_of}
use Rattle.trade_text.specs.Kinds.{cash_kind, trades_kind}
use Rattle.trade_text.specs.Limits.{max_account, max_amount, max_cents, max_input_bytes, max_inputs, max_qty, max_seconds, max_symbol_bytes, max_symbols}
use Rattle.trade_text.specs.Records.{starts_with_mark}
use Rattle.trade_text.specs.Trades.{trades_of}
use Rattle.trade_text.specs.declared.error.CashField.{CashField}
use Rattle.trade_text.specs.declared.error.CashField.TheVariants as cash_field
use Rattle.trade_text.specs.declared.error.Field.{Field}
use Rattle.trade_text.specs.declared.error.Field.TheVariants as field
use Rattle.trade_text.specs.declared.error.ReadError.{ReadError}
use Rattle.trade_text.specs.declared.error.ReadError.TheVariants as error
use Rattle.record_faults.specs.Columns.{place_of}
use Rattle.input_faults.specs.Records.{Left, at_start, before, behind_fields, column_behind, fields_in, line_behind, names_in, record_of, word_in, word_start}
use Rattle.input_faults.specs.Shown.{stands}
use Rattle.input_faults.specs.WordFaults.{length_line, told}

-- ---- where

-- the front of a line about a record of this number: the file, the line in which the record begins, and its number
abbrev pub record_front : List ℕ → List ℕ → ℕ → List ℕ
record_front name text number =
    name ++ (codes ": line " ++ (decimal (line_behind (before (record_of number text) text)) ++ (codes " (record " ++ (decimal number ++ codes ")"))))

-- what is left of a text from a field on that has so many before it in the record of this number
abbrev pub left_at : List ℕ → ℕ → ℕ → Left
left_at text number place = behind_fields place (at_start (record_of number text))

-- the bytes before the first byte of that field which is no blank
abbrev pub front_of : List ℕ → ℕ → ℕ → List ℕ
front_of text number place = before (word_start (left_at text number place)) text

-- the line that is said of a field: where it begins, its bytes, and what may stand there
abbrev pub field_line : List ℕ → List ℕ → ℕ → ℕ → List ℕ → List ℕ
field_line name text number place expected =
    name ++ (codes ": line " ++ (decimal (line_behind (front_of text number place)) ++ (codes " (record " ++ (decimal number
    ++ (codes "), column " ++ (decimal (column_behind (front_of text number place)) ++ (codes ": "
    ++ (stands (word_in (left_at text number place)) ++ (codes "; here may stand: " ++ expected)))))))))

-- ---- the header and whole records

-- that a record has so many fields, and the header another number
unfoldable pub counts_text : ℕ → ℕ → List ℕ
counts_text fields names = codes ": " ++ (decimal fields ++ (codes " fields, the header has " ++ decimal names))

-- a record that has another number of fields than the header
abbrev pub count_line : List ℕ → List ℕ → ℕ → List ℕ
count_line name text number = record_front name text number ++ counts_text (length (fields_in (record_of number text))) (length (fields_in text))

-- whether a text has a header
abbrev pub is_headless : List ℕ → Bool
is_headless text = starts_with_mark text || (length (fields_in text) == 0)

-- a header that doesn't name each column once, or none
abbrev pub header_line : List ℕ → List ℕ → List ℕ → List ℕ
header_line name text columns =
    if is_headless text then name ++ (codes ": no header; the first record has to name each of these once: " ++ columns)
    else record_front name text 1 ++ (codes ": the header has to name each of these once: " ++ columns)

-- the record of this number, for which there is no room
abbrev pub full_line : List ℕ → List ℕ → ℕ → ℕ → List ℕ → List ℕ
full_line name text number room rows = record_front name text number ++ (codes ": at most " ++ (decimal room ++ (codes " " ++ (rows ++ codes " may be"))))

-- a record more than may be, where all before it are accepted
abbrev pub room_line : List ℕ → List ℕ → ℕ → List ℕ → List ℕ
room_line name text room rows = full_line name text (room + 2) room rows

-- ---- ranges, in words

-- a number between two limits
abbrev pub range_text : ℕ → ℕ → List ℕ
range_text low high = codes "a number from " ++ (decimal low ++ (codes " to " ++ decimal high))

-- an amount of whole units, of a hundred cents each
abbrev pub units_text : ℕ → List ℕ
units_text cents = decimal (cents / 100) ++ codes ".00"

-- a time up to a limit of seconds
abbrev pub time_text : ℕ → List ℕ
time_text seconds = codes "seconds from 0 to " ++ (decimal seconds ++ codes ", or a time of day as 9:30:00")

-- money between two amounts
abbrev pub money_text : List ℕ → List ℕ → List ℕ
money_text low high = low ++ (codes " to " ++ (high ++ codes ", with at most two digits behind the point"))

-- ---- trades

-- what may stand in a field of a trade
abbrev pub trade_form : Field → List ℕ
trade_form field.Time = time_text max_seconds
trade_form field.Account = range_text 1 max_account
trade_form field.Symbol = codes "1 to " ++ (decimal max_symbol_bytes ++ codes " printed characters, none of them a comma or a double quote")
trade_form field.Side = codes "B, BUY, S, SELL"
trade_form field.Qty = range_text 1 max_qty
trade_form field.Price = money_text (codes "0") (units_text max_cents)

-- what may stand in a field of a trade that is of its form and out of range: no new symbol where there is no room for it
abbrev pub trade_range : Field → List ℕ
trade_range field.Symbol = codes "one of the " ++ (decimal max_symbols ++ codes " symbols that stand before")
trade_range what = trade_form what

-- the line that is said of refused trades
abbrev pub trades_line_in : List ℕ → List ℕ → ReadError Field → List ℕ
trades_line_in name text error.Header = header_line name text (codes "time, account, symbol, side, qty, price")
trades_line_in name text (error.Row number) = count_line name text number
trades_line_in name text (error.Field number what) = field_line name text number (place_of trades_kind what (names_in text)) (trade_form what)
trades_line_in name text (error.Range number what) = field_line name text number (place_of trades_kind what (names_in text)) (trade_range what)
trades_line_in name text error.TooMany = room_line name text max_inputs (codes "trades")
trades_line_in name text (error.TooLong count) = length_line name count max_input_bytes
trades_line_in name text error.OutOfMemory = name ++ codes ": out of memory"

-- what is said of a trades file's bytes: nothing where they are trades
unfoldable pub trades_fault : List ℕ → List ℕ → Option (List ℕ)
trades_fault name bytes = told (trades_line_in name (strip_bom bytes)) (trades_of bytes)

-- ---- cash movements

-- what may stand in a field of a movement
abbrev pub cash_form : CashField → List ℕ
cash_form cash_field.Time = time_text max_seconds
cash_form cash_field.Account = range_text 1 max_account
cash_form cash_field.Amount = money_text (codes "-" ++ units_text max_amount) (units_text max_amount)

-- the line that is said of refused movements, of which so many have room
abbrev pub cash_line_in : List ℕ → List ℕ → ℕ → ReadError CashField → List ℕ
cash_line_in name text room error.Header = header_line name text (codes "time, account, amount")
cash_line_in name text room (error.Row number) = count_line name text number
cash_line_in name text room (error.Field number what) = field_line name text number (place_of cash_kind what (names_in text)) (cash_form what)
cash_line_in name text room (error.Range number what) = field_line name text number (place_of cash_kind what (names_in text)) (cash_form what)
cash_line_in name text room error.TooMany = room_line name text room (codes "movements")
cash_line_in name text room (error.TooLong count) = length_line name count max_input_bytes
cash_line_in name text room error.OutOfMemory = name ++ codes ": out of memory"

-- what is said of a cash file's bytes, of whose movements so many have room: nothing where they are movements
unfoldable pub cash_fault : ℕ → List ℕ → List ℕ → Option (List ℕ)
cash_fault room name bytes = told (cash_line_in name (strip_bom bytes) room) (cash_of bytes room)

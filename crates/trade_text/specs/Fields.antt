-- The fields of trades and movements: what their texts say.
use Rattle.std.specs.Prelude.{ℕ, ℤ, pos, neg_ℤ, Bool, true, false, not, ◌+◌, ◌*◌, ◌==◌, ◌&&◌, ◌||◌, nat_le, List, [], ◌∷◌, length, take, drop, Option, Some, None, Result, Ok, Err, codes, if◌then◌else◌, position}
use Rattle.std.specs.List.{list_all}
use Rattle.std.specs.Option.{ok_or}
use Rattle.std.specs.Str.{str_eq_ignore_ascii_case}
use Rattle.text_words.specs.Lines.{is_blank}
use Rattle.text_words.specs.Numbers.{number_of}
use Rattle.trade_text.specs.Limits.{max_account, max_amount, max_cents, max_digits, max_qty, max_seconds, max_symbol_bytes}
use Rattle.trade_text.specs.Results.{◌>>=◌}
use Rattle.trade_text.specs.declared.fields.Fault.{Fault}
use Rattle.trade_text.specs.declared.fields.Fault.TheVariants as fault
use Rattle.trade_text.specs.declared.fields.Side.{Side}
use Rattle.trade_text.specs.declared.fields.Side.TheVariants as side

-- ---- blanks

-- a text without spaces and tabs at its start
unfoldable pub drop_blanks : List ℕ → List ℕ
drop_blanks [] = []
drop_blanks (b ∷ bytes) = if is_blank b then drop_blanks bytes else b ∷ bytes

-- whether nothing is left of a text
abbrev pub is_none_left : List ℕ → Bool
is_none_left [] = true
is_none_left (b ∷ bytes) = false

-- a text without spaces and tabs at its end
unfoldable pub trim_end : List ℕ → List ℕ
trim_end [] = []
trim_end (b ∷ bytes) = if is_blank b && is_none_left (trim_end bytes) then [] else b ∷ trim_end bytes

-- a text without spaces and tabs at its ends
abbrev pub trim_blanks : List ℕ → List ℕ
trim_blanks text = trim_end (drop_blanks text)

-- ---- values and their bounds

-- a value that has the form of its field, or none
abbrev pub formed : {A : Type 0} → Option A → Result A Fault
formed value = ok_or value fault.Form

-- a number between two bounds
abbrev pub ranged : ℕ → ℕ → ℕ → Result ℕ Fault
ranged least most n = if nat_le least n && nat_le n most then Ok n else Err fault.Range

-- the value of 1 to 18 digits
abbrev pub digits_of : List ℕ → Option ℕ
digits_of text = if nat_le (length text) max_digits then number_of text else None

-- 1 to 18 digits, whose value lies between two bounds
unfoldable pub number_between : ℕ → ℕ → List ℕ → Result ℕ Fault
number_between least most text = do
  n ← formed (digits_of text)
  ranged least most n

-- what stands before and after a place
abbrev pub parts_at : List ℕ → Option ℕ → Option (List ℕ × List ℕ)
parts_at text None = None
parts_at text (Some place) = Some (take place text, drop (place + 1) text)

-- what stands before and after the first of these bytes, if there is one
abbrev pub split_once : ℕ → List ℕ → Option (List ℕ × List ℕ)
split_once mark text = parts_at text (position (λ b. b == mark) text)

-- ---- the time

-- the value of two digits
abbrev pub two_digits : List ℕ → Option ℕ
two_digits text = if length text == 2 then number_of text else None

-- the value of one or two digits
abbrev pub one_or_two_digits : List ℕ → Option ℕ
one_or_two_digits text = if nat_le (length text) 2 then number_of text else None

-- the seconds of the day at a time of day
abbrev pub seconds_of_day : ℕ → ℕ → ℕ → Result ℕ Fault
seconds_of_day hours minutes seconds =
    if nat_le hours 23 && nat_le minutes 59 && nat_le seconds 59 then Ok (hours * 3600 + minutes * 60 + seconds) else Err fault.Range

-- one or two digits of hours, and behind a colon two digits of minutes, a colon and two digits of seconds
unfoldable pub clock_of : List ℕ → List ℕ → Result ℕ Fault
clock_of front back = do
  parts ← formed (split_once 58 back)
  hours ← formed (one_or_two_digits front)
  minutes ← formed (two_digits parts.0)
  seconds ← formed (two_digits parts.1)
  seconds_of_day hours minutes seconds

-- a time in seconds: a number of them, or, where a text has these parts before and after a colon, a time of day
abbrev pub time_at : List ℕ → Option (List ℕ × List ℕ) → Result ℕ Fault
time_at text None = number_between 0 max_seconds text
time_at text (Some parts) = clock_of parts.0 parts.1

-- a time in seconds: a number of them, or, where there is a colon, a time of day
abbrev pub time_of : List ℕ → Result ℕ Fault
time_of text = time_at text (split_once 58 text)

-- ---- the account and the quantity

-- an account, which is a number from 1
abbrev pub account_of : List ℕ → Result ℕ Fault
account_of text = number_between 1 max_account text

-- a quantity, which is at least 1
abbrev pub qty_of : List ℕ → Result ℕ Fault
qty_of text = number_between 1 max_qty text

-- ---- the symbol

-- a byte of a symbol: printed ASCII, and neither comma nor double quote
abbrev pub is_symbol_byte : ℕ → Bool
is_symbol_byte b = nat_le 32 b && nat_le b 126 && not (b == 44) && not (b == 34)

-- a symbol has 1 to 32 of these bytes
abbrev pub is_symbol : List ℕ → Bool
is_symbol text = nat_le 1 (length text) && nat_le (length text) max_symbol_bytes && list_all is_symbol_byte text

-- the name of a symbol
abbrev pub symbol_of : List ℕ → Result (List ℕ) Fault
symbol_of text = if is_symbol text then Ok text else Err fault.Form

-- ---- the side

-- `B` or `BUY` for a buy, `S` or `SELL` for a sale, in either case
unfoldable pub side_of : List ℕ → Result Side Fault
side_of text =
    if str_eq_ignore_ascii_case text (codes "b") || str_eq_ignore_ascii_case text (codes "buy") then Ok side.Buy
    else if str_eq_ignore_ascii_case text (codes "s") || str_eq_ignore_ascii_case text (codes "sell") then Ok side.Sell
    else Err fault.Form

-- ---- money

-- the cents that one or two digits behind the point mean
abbrev pub fraction_of : List ℕ → Option ℕ
fraction_of text = if length text == 1 then tens (number_of text) else two_digits text
  where
    tens : Option ℕ → Option ℕ
    tens None = None
    tens (Some n) = Some (n * 10)

-- money in cents, up to a limit: of a text without a point, or of the parts before and after it
abbrev pub cents_at : ℕ → List ℕ → Option (List ℕ × List ℕ) → Result ℕ Fault
cents_at most text None = do
  units ← formed (digits_of text)
  ranged 0 most (units * 100)
cents_at most text (Some parts) = do
  units ← formed (digits_of parts.0)
  cents ← formed (fraction_of parts.1)
  ranged 0 most (units * 100 + cents)

-- money in cents, up to a limit: 1 to 18 digits, or these with a point and one or two digits
abbrev pub cents_of : ℕ → List ℕ → Result ℕ Fault
cents_of most text = cents_at most text (split_once 46 text)

-- a price in cents
abbrev pub price_of : List ℕ → Result ℕ Fault
price_of text = cents_of max_cents text

-- money that comes in, as an amount
abbrev pub coming : Result ℕ Fault → Result ℤ Fault
coming (Ok cents) = Ok (pos cents)
coming (Err why) = Err why

-- money that goes out, as an amount with a minus
abbrev pub going : Result ℕ Fault → Result ℤ Fault
going (Ok cents) = Ok (neg_ℤ (pos cents))
going (Err why) = Err why

-- an amount in cents: money, below zero behind a minus; a plus changes nothing
abbrev pub amount_of : List ℕ → Result ℤ Fault
amount_of [] = Err fault.Form
amount_of (first ∷ text) =
    if first == 45 then going (cents_of max_amount text) else if first == 43 then coming (cents_of max_amount text) else coming (cents_of max_amount (first ∷ text))

-- The text of made trades.
use Rattle.std.specs.Prelude.{ℕ, Bool, true, false, ◌+◌, ◌/◌, ◌%◌, List, [], ◌∷◌, ◌++◌, codes}
use Rattle.std.specs.Fmt.{decimal}
use Rattle.std.specs.List.{flat_map, join_with_byte}
use Rattle.trade_maker.specs.Generator.{trades_from}
use Rattle.trade_maker.specs.declared.generator.MadeTrade.{MadeTrade}

-- a number below 100 in two digits
abbrev pub two_digits : ℕ → List ℕ
two_digits n = (48 + n / 10) ∷ (48 + n % 10) ∷ []

-- the letter of a side: `B` for a buy, `S` for a sale
abbrev pub side_text : Bool → List ℕ
side_text true = codes "B"
side_text false = codes "S"

-- money with two decimals
abbrev pub money : ℕ → List ℕ
money cents = decimal (cents / 100) ++ codes "." ++ two_digits (cents % 100)

-- the names of the fields
abbrev pub header : List (List ℕ)
header = codes "time" ∷ codes "account" ∷ codes "symbol" ∷ codes "side" ∷ codes "qty" ∷ codes "price" ∷ []

-- the fields of a trade
abbrev pub trade_fields : MadeTrade → List (List ℕ)
trade_fields t = decimal t.time ∷ decimal t.account ∷ (codes "S" ++ two_digits t.symbol) ∷ side_text t.is_buy ∷ decimal t.qty ∷ money t.cents ∷ []

-- a line: its fields with commas between them, and LF
abbrev pub record_line : List (List ℕ) → List ℕ
record_line fields = join_with_byte 44 fields ++ codes "\n"

-- the lines of trades
abbrev pub trade_lines : List MadeTrade → List ℕ
trade_lines trades = flat_map (λ t. record_line (trade_fields t)) trades

-- the text of so many trades, made from a start: the names of the fields, and a line for each trade
abbrev pub made_text : ℕ → ℕ → List ℕ
made_text start count = record_line header ++ trade_lines (trades_from 1 count start)

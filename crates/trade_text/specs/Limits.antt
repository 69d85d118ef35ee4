-- The limits of files and of their fields. Each number stands here alone.
use Rattle.std.specs.Prelude.{ℕ, ◌*◌}

-- the most bytes of a file
abbrev pub max_input_bytes : ℕ
max_input_bytes = 16777216

-- the most trades, and the most trades and movements together
abbrev pub max_inputs : ℕ
max_inputs = 100000

-- the most symbols of trades
abbrev pub max_symbols : ℕ
max_symbols = 4096

-- the most bytes of a symbol
abbrev pub max_symbol_bytes : ℕ
max_symbol_bytes = 32

-- the most digits of a number
abbrev pub max_digits : ℕ
max_digits = 18

-- the latest time, in seconds
abbrev pub max_seconds : ℕ
max_seconds = 9999999999

-- the last second of a day
abbrev pub max_second_of_day : ℕ
max_second_of_day = 86399

-- the greatest number of an account
abbrev pub max_account : ℕ
max_account = 1000000

-- the greatest quantity of a trade
abbrev pub max_qty : ℕ
max_qty = 100000

-- the highest price, in cents
abbrev pub max_cents : ℕ
max_cents = 100000000

-- the greatest amount of a movement, in cents
abbrev pub max_amount : ℕ
max_amount = 10000000000

-- the greatest value of a row, in cents: no amount is greater
abbrev pub max_value : ℕ
max_value = max_qty * max_cents

-- The limit of a number word.
use Rattle.std.specs.Prelude.{ℕ}

-- so many digits never wrap in 64 bits
abbrev pub max_number_digits : ℕ
max_number_digits = 19

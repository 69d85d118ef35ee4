-- How bytes of a file are shown in a line of text.
use Rattle.std.specs.Prelude.{ℕ, ◌+◌, ◌/◌, ◌%◌, ◌==◌, ◌&&◌, ◌||◌, nat_le, nat_lt, List, [], ◌∷◌, ◌++◌, length, take, codes, if◌then◌else◌}
use Rattle.std.specs.List.{flat_map}

-- of a word so many bytes are shown at most
abbrev pub max_shown_bytes : ℕ
max_shown_bytes = 40

-- the digit of a number below 16
abbrev pub hex_digit : ℕ → ℕ
hex_digit n = if nat_lt n 10 then 48 + n else 87 + n

-- A byte as it is shown: printed ASCII as it is, with a backslash before a double quote and a backslash; of any other byte its two hexadecimal digits.
abbrev pub shown_byte : ℕ → List ℕ
shown_byte b =
    if (b == 34) || (b == 92) then 92 ∷ b ∷ []
    else if nat_le 32 b && nat_le b 126 then b ∷ []
    else 92 ∷ 120 ∷ hex_digit (b / 16) ∷ hex_digit (b % 16) ∷ []

-- what stands behind the bytes that are shown: a closing quote, and three points where there were more
abbrev pub closing : List ℕ → List ℕ
closing word = if nat_lt max_shown_bytes (length word) then codes "\"..." else codes "\""

-- a word as it is shown, between double quotes
abbrev pub shown : List ℕ → List ℕ
shown word = codes "\"" ++ (flat_map shown_byte (take max_shown_bytes word) ++ closing word)

-- that a word stands somewhere
abbrev pub stands : List ℕ → List ℕ
stands word = shown word ++ codes " stands here"

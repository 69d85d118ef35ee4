-- Number words within limits.
use Rattle.std.specs.Prelude.{ℕ, ℤ, Bool, false, ◌&&◌, ◌==◌, nat_le, Option, Some, None, unsigned_abs}
use Rattle.tuple_edge.specs.Sum.{big}
use Rattle.text_words.specs.Lines.{Word}
use Rattle.text_words.specs.Numbers.{number_of, signed_number_of}

-- whether there is a number, between these two
abbrev pub is_between : ℕ → ℕ → Option ℕ → Bool
is_between low high None = false
is_between low high (Some n) = nat_le low n && nat_le n high

-- whether a word is a number word between these two
abbrev pub is_number_from : ℕ → ℕ → Word → Bool
is_number_from low high word = is_between low high (number_of word)

-- whether there is a number, of this value
abbrev pub is_equal : ℕ → Option ℕ → Bool
is_equal number None = false
is_equal number (Some n) = n == number

-- whether a word is a number word of this value
abbrev pub is_number : ℕ → Word → Bool
is_number number word = is_equal number (number_of word)

-- whether there is a number, within the bounds of a field
abbrev pub is_small : Option ℤ → Bool
is_small None = false
is_small (Some z) = nat_le (unsigned_abs z) big

-- whether a word is a number word within the bounds of a field, with a minus where it is negative
abbrev pub is_limit : Word → Bool
is_limit word = is_small (signed_number_of word)

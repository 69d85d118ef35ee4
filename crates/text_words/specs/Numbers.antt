-- Number words.
use Rattle.std.specs.Prelude.{ℕ, ℤ, Bool, pos, neg_ℤ, ◌+◌, ◌-◌, ◌*◌, ◌==◌, ◌&&◌, nat_le, List, [], ◌∷◌, length, fold, Option, Some, None, if◌then◌else◌}
use Rattle.std.specs.Char.{is_ascii_digit}
use Rattle.std.specs.List.{list_all}
use Rattle.std.specs.Option.{option_map}
use Rattle.text_words.specs.Limits.{max_number_digits}

-- the value of digits
abbrev pub digits_value : List ℕ → ℕ
digits_value digits = fold (λ n d. n * 10 + (d - 48)) 0 digits

-- whether a word is a number word: digits, at least one and not too many
abbrev pub is_number : List ℕ → Bool
is_number word = nat_le 1 (length word) && nat_le (length word) max_number_digits && list_all is_ascii_digit word

-- the value of a number word; other words have none
abbrev pub number_of : List ℕ → Option ℕ
number_of word = if is_number word then Some (digits_value word) else None

-- the value of a number word that may have a minus directly before it
abbrev pub signed_number_of : List ℕ → Option ℤ
signed_number_of [] = None
signed_number_of (b ∷ digits) = if b == 45 then option_map (λ n. neg_ℤ (pos n)) (number_of digits) else option_map pos (number_of (b ∷ digits))

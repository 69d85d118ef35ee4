-- The decimal text of a number is a number word of its value.
use Rattle.std.proofs.Common.{ℕ, suc, ℤ, pos, negsuc, ◌≡◌, ◌<◌, ◌≤◌, ◌+◌, ◌-◌, ◌*◌, ◌==◌, true, false, List, [], ◌∷◌, length, refl, ap, arith, rules, lit<}
use Rattle.std.specs.Prelude.{Some, fold, nat_le, unsigned_abs}
use Rattle.std.specs.Char.{is_ascii_digit}
use Rattle.std.specs.Fmt.{decimal, signed_decimal}
use Rattle.std.specs.List.{list_all}
use Rattle.std.proofs.lemmas.Bool.Decides.{nat_tests}
use Rattle.std.proofs.lemmas.Fmt.{decimal_nonempty, digits_decimal, digits_value-decimal, length-decimal-le}
use Rattle.std.proofs.lemmas.Str.Parse.{IsNumeralModel, numerals_by_fold}
use Rattle.text_words.proofs.LineFacts.{both_true}
use Rattle.text_words.specs.Numbers.{digits_value, is_number, number_of, signed_number_of}

-- the words of this crate for digits and their value
numerals : IsNumeralModel (λ ds. list_all is_ascii_digit ds ≡ true) digits_value
numerals = numerals_by_fold _ (search rules) (λ n ds. fold (λ m d. m * 10 + (d - 48)) n ds) (search rules)

pub decimal_digits : (n : ℕ) → n < 10000000000000000000 → list_all is_ascii_digit (decimal n) ≡ true
decimal_digits n small = digits_decimal numerals n (omega (arith, small))

pub decimal_some : (n : ℕ) → n < 10000000000000000000 → 0 < length (decimal n)
decimal_some n small = decimal_nonempty n (omega (arith, small))

pub decimal_few : (n : ℕ) → n < 10000000000000000000 → length (decimal n) ≤ 19
decimal_few n small = length-decimal-le 19 n (lit< tt) small (omega (arith, small))

is_number_decimal : (n : ℕ) → n < 10000000000000000000 → is_number (decimal n) ≡ true
is_number_decimal n small =
    let some : nat_le 1 (length (decimal n)) ≡ true = grind (arith, nat_tests, decimal_some n small) in
    let few : nat_le (length (decimal n)) 19 ≡ true = grind (arith, nat_tests, decimal_few n small) in
    rw (some, few, decimal_digits n small) refl

pub number_of_decimal : (n : ℕ) → n < 10000000000000000000 → number_of (decimal n) ≡ Some n
number_of_decimal n small =
    let value : digits_value (decimal n) ≡ n = digits_value-decimal numerals n (omega (arith, small)) in
    rw (is_number_decimal n small) (ap Some value)

-- digits don't begin with a minus
plain_signed : (word : List ℕ) (n : ℕ) → 0 < length word → list_all is_ascii_digit word ≡ true → number_of word ≡ Some n → signed_number_of word ≡ Some (pos n)
plain_signed [] n some digits value = absurd (omega (arith, some))
plain_signed (b ∷ ds) n some digits value =
    let (here, later) = both_true (is_ascii_digit b) (list_all is_ascii_digit ds) digits in
    let no_minus : (b == 45) ≡ false = grind (arith, nat_tests) in
    rw (no_minus, value) refl

pub signed_number_of_decimal : (z : ℤ) → unsigned_abs z < 10000000000000000000 → signed_number_of (signed_decimal z) ≡ Some z
signed_number_of_decimal (pos n) small = plain_signed (decimal n) n (decimal_some n small) (decimal_digits n small) (number_of_decimal n small)
signed_number_of_decimal (negsuc n) small = rw (number_of_decimal (suc n) small) refl

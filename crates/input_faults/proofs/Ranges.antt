-- The ranges that are said of a record's fields are those that are read.
use Rattle.std.proofs.Common.{ℕ, ℤ, zero, suc, pos, ◌≡◌, ◌<◌, ◌≤◌, ◌+◌, ◌*◌, ◌==◌, ◌&&◌, Bool, true, false, List, [], ◌∷◌, length, if◌then◌else◌, refl, arith, lit<}
use Rattle.std.specs.Prelude.{Option, Some, None, Result, Ok, Err, nat_le, neg_ℤ, unsigned_abs}
use Rattle.std.specs.Fmt.{decimal, digits}
use Rattle.std.specs.List.{list_all}
use Rattle.std.proofs.lemmas.Bool.Decides.{nat_tests}
use Rattle.std.proofs.lemmas.Fmt.{length-decimal-le}
use Rattle.text_words.proofs.NumberWords.{number_of_decimal}
use Rattle.trade_text.specs.Fields.{amount_of, cents_at, cents_of, clock_of, coming, digits_of, formed, fraction_of, going, is_symbol_byte, number_between, one_or_two_digits, ranged, split_once, time_at, two_digits}
use Rattle.trade_text.specs.Results.{◌>>=◌}
use Rattle.trade_text.proofs.Times.{number_is_time}
use Rattle.input_faults.specs.Ranges.{IsRange, RangesAreRead}

-- a step that gives a value had one to go on from
got : {A B E : Type 0} (r : Result A E) (next : A → Result B E) (y : B) → (r >>= next) ≡ Ok y → (x : A) × (next x ≡ Ok y)
got (Ok x) next y e = (x, e)
got (Err why) next y e = let z : ⊥ = cc e in absurd z

-- ---- numbers

ranged_if : {E : Type 0} (why : E) (low high n m : ℕ) (test : Bool) → (nat_le low n && nat_le n high) ≡ test → (if test then Ok n else Err why) ≡ Ok m → (low ≤ m) × (m ≤ high)
ranged_if why low high n m true within e =
    let same : n ≡ m = cc e in
    let both : (low ≤ n) × (n ≤ high) = grind (arith, nat_tests) in
    (omega (arith, both.0, same), omega (arith, both.1, same))
ranged_if why low high n m false within e = let z : ⊥ = cc e in absurd z

ranged_bounds : (low high n m : ℕ) → ranged low high n ≡ Ok m → (low ≤ m) × (m ≤ high)
ranged_bounds low high n m e = ranged_if _ low high n m (nat_le low n && nat_le n high) refl e

number_bounds : (low high : ℕ) (text : List ℕ) (n : ℕ) → number_between low high text ≡ Ok n → (low ≤ n) × (n ≤ high)
unfolding number_between
number_bounds low high text n e =
    let (x, is) = got (formed (digits_of text)) (ranged low high) n e in
    ranged_bounds low high x n is

number_within : (low high n : ℕ) → high < 1000000000000000000 → low ≤ n → n ≤ high → number_between low high (decimal n) ≡ Ok n
unfolding number_between
number_within low high n small least most =
    let few : nat_le (length (decimal n)) 18 ≡ true = grind (arith, nat_tests, length-decimal-le 18 n (lit< tt) (omega (arith, small, most)) (omega (arith, small, most))) in
    let value = number_of_decimal n (omega (arith, small, most)) in
    let above : nat_le low n ≡ true = grind (arith, nat_tests, least) in
    let below : nat_le n high ≡ true = grind (arith, nat_tests, most) in
    rw (few, value, above, below) refl

number_range : (low high : ℕ) → high < 1000000000000000000 → IsRange (number_between low high) low high
number_range low high small = record { within = λ n least most. number_within low high n small least most; bounds = number_bounds low high }

-- ---- times

day_if : {E : Type 0} (why : E) (h m s n : ℕ) (test : Bool) → (nat_le h 23 && nat_le m 59 && nat_le s 59) ≡ test → (if test then Ok (h * 3600 + m * 60 + s) else Err why) ≡ Ok n → n ≤ 86399
day_if why h m s n true within e =
    let same : h * 3600 + m * 60 + s ≡ n = cc e in
    let all : (h ≤ 23) × (m ≤ 59) × (s ≤ 59) = grind (arith, nat_tests) in
    omega (arith, all.0, all.1, all.2, same)
day_if why h m s n false within e = let z : ⊥ = cc e in absurd z

clock_bounds : (front back : List ℕ) (n : ℕ) → clock_of front back ≡ Ok n → n ≤ 86399
unfolding clock_of
clock_bounds front back n e =
    let (parts, minutes_seconds) = got (formed (split_once 58 back)) _ n e in
    let (h, hours) = got (formed (one_or_two_digits front)) _ n minutes_seconds in
    let (m, minutes) = got (formed (two_digits parts.0)) _ n hours in
    let (s, seconds) = got (formed (two_digits parts.1)) _ n minutes in
    day_if _ h m s n (nat_le h 23 && nat_le m 59 && nat_le s 59) refl seconds

time_bounds : (text : List ℕ) (n : ℕ) (parts : Option (List ℕ × List ℕ)) → time_at text parts ≡ Ok n → n ≤ 9999999999
time_bounds text n None e = (number_bounds 0 9999999999 text n e).1
time_bounds text n (Some parts) e = omega (arith, clock_bounds parts.0 parts.1 n e)

-- ---- symbols

symbol_if : {E : Type 0} (why : E) (text name : List ℕ) (test : Bool) → (nat_le 1 (length text) && nat_le (length text) 32 && list_all is_symbol_byte text) ≡ test → (if test then Ok text else Err why) ≡ Ok name
    → (1 ≤ length name) × (length name ≤ 32)
symbol_if why text name true is e =
    let same : text ≡ name = cc e in
    let both : (1 ≤ length text) × (length text ≤ 32) = grind (arith, nat_tests) in
    rw (← same) both
symbol_if why text name false is e = let z : ⊥ = cc e in absurd z

-- ---- money

cents_bounds : (most : ℕ) (text : List ℕ) (n : ℕ) (parts : Option (List ℕ × List ℕ)) → cents_at most text parts ≡ Ok n → n ≤ most
cents_bounds most text n None e =
    let (units, is) = got (formed (digits_of text)) (λ units. ranged 0 most (units * 100)) n e in
    (ranged_bounds 0 most (units * 100) n is).1
cents_bounds most text n (Some parts) e =
    let (units, later) = got (formed (digits_of parts.0)) _ n e in
    let (cents, is) = got (formed (fraction_of parts.1)) (λ cents. ranged 0 most (units * 100 + cents)) n later in
    (ranged_bounds 0 most (units * 100 + cents) n is).1

coming_bounds : (most : ℕ) (r : Result ℕ _) (z : ℤ) → ((n : ℕ) → r ≡ Ok n → n ≤ most) → coming r ≡ Ok z → unsigned_abs z ≤ most
coming_bounds most (Ok n) z within e = let same : pos n ≡ z = cc e in rw (← same) (within n refl)
coming_bounds most (Err why) z within e = let no : ⊥ = cc e in absurd no

size_below : (n : ℕ) → unsigned_abs (neg_ℤ (pos n)) ≡ n
size_below zero = refl
size_below (suc n) = refl

going_bounds : (most : ℕ) (r : Result ℕ _) (z : ℤ) → ((n : ℕ) → r ≡ Ok n → n ≤ most) → going r ≡ Ok z → unsigned_abs z ≤ most
going_bounds most (Ok n) z within e = let same : neg_ℤ (pos n) ≡ z = cc e in rw (← same, size_below n) (within n refl)
going_bounds most (Err why) z within e = let no : ⊥ = cc e in absurd no

cents_most : (text : List ℕ) (n : ℕ) → cents_of 10000000000 text ≡ Ok n → n ≤ 10000000000
cents_most text n e = cents_bounds 10000000000 text n (split_once 46 text) e

amount_if : (minus plus : Bool) (text all : List ℕ) (z : ℤ)
    → (if minus then going (cents_of 10000000000 text) else if plus then coming (cents_of 10000000000 text) else coming (cents_of 10000000000 all)) ≡ Ok z → unsigned_abs z ≤ 10000000000
amount_if true plus text all z e = going_bounds 10000000000 (cents_of 10000000000 text) z (cents_most text) e
amount_if false true text all z e = coming_bounds 10000000000 (cents_of 10000000000 text) z (cents_most text) e
amount_if false false text all z e = coming_bounds 10000000000 (cents_of 10000000000 all) z (cents_most all) e

amount_bounds : (text : List ℕ) (z : ℤ) → amount_of text ≡ Ok z → unsigned_abs z ≤ 10000000000
amount_bounds [] z e = let no : ⊥ = cc e in absurd no
amount_bounds (first ∷ text) z e = amount_if (first == 45) (first == 43) text (first ∷ text) z e

pub are_read : RangesAreRead
unfolding digits
are_read = record {
  time = record {
    within = λ n least most. number_is_time (decimal n) n (number_within 0 9999999999 n (lit< tt) least most);
    bounds = λ text n e. (omega arith, time_bounds text n (split_once 58 text) e);
  };
  account = number_range 1 1000000 (lit< tt);
  qty = number_range 1 100000 (lit< tt);
  symbol = λ text name e. symbol_if _ text name (nat_le 1 (length text) && nat_le (length text) 32 && list_all is_symbol_byte text) refl e;
  greatest_price = refl;
  prices = λ text n e. cents_bounds 100000000 text n (split_once 46 text) e;
  greatest_amount = refl;
  least_amount = refl;
  amounts = amount_bounds;
}

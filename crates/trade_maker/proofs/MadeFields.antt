-- The fields of a made trade are plain, and read as what they were made of.
use Rattle.std.proofs.Common.{ℕ, suc, ◌≡◌, ◌<◌, ◌≤◌, ◌+◌, ◌*◌, ◌/◌, ◌%◌, ◌==◌, Bool, true, false, List, [], ◌∷◌, ◌++◌, length, Some, None, Ok, refl, sym, ap, ◌∙◌, arith, lit<, length-append, nat_lt, inl, inr, append_assoc}
use Rattle.std.specs.Prelude.{◌||◌, nat_le, codes}
use Rattle.std.specs.Char.{is_ascii_digit}
use Rattle.std.specs.Fmt.{decimal}
use Rattle.std.specs.List.{list_all, list_any, position_or_len}
use Rattle.std.proofs.Math.Nat.{div-add-mod, mod-lt}
use Rattle.std.proofs.Math.Seq.{drop-append-add, take-append_seam}
use Rattle.std.proofs.lemmas.Bool.{cases_Bool, eqb-true, false≢true}
use Rattle.std.proofs.lemmas.Bool.Decides.{nat_tests}
use Rattle.std.proofs.lemmas.Fmt.{length-decimal-le}
use Rattle.std.proofs.lemmas.List.Folds.{list_all-append}
use Rattle.text_words.proofs.LineFacts.{both_true}
use Rattle.text_words.proofs.NumberWords.{decimal_digits, number_of_decimal}
use Rattle.text_words.specs.Numbers.{number_of}
use Rattle.trade_text.specs.Fields.{cents_at, digits_of, is_symbol_byte, number_between, price_of, split_once, symbol_of, time_of}
use Rattle.trade_maker.specs.MadeText.{money, side_text, two_digits}
use Rattle.trade_maker.proofs.PlainFields.{IsPlain, is_plain}

-- ---- digits

digit_plain : (b : ℕ) → is_ascii_digit b ≡ true → is_plain b ≡ true
digit_plain b digit = grind (arith, nat_tests)

digits_plain : (text : List ℕ) → list_all is_ascii_digit text ≡ true → IsPlain text
digits_plain [] digits = refl
digits_plain (b ∷ text) digits =
    let (here, later) = both_true (is_ascii_digit b) (list_all is_ascii_digit text) digits in
    rw (digit_plain b here, digits_plain text later) refl

pub decimal_plain : (n : ℕ) → n < 1000000000 → IsPlain (decimal n)
decimal_plain n small = digits_plain (decimal n) (decimal_digits n (omega (arith, small)))

-- the digits of two_digits
tens_digit : (n : ℕ) → n < 100 → is_ascii_digit (48 + n / 10) ≡ true
tens_digit n small =
    let tens : n / 10 < 10 = omega (arith, small) in
    grind (arith, nat_tests, tens)

units_digit : (n : ℕ) → is_ascii_digit (48 + n % 10) ≡ true
units_digit n =
    let units : n % 10 < 10 = mod-lt n (lit< tt) in
    grind (arith, nat_tests, units)

pub two_digits_plain : (n : ℕ) → n < 100 → IsPlain (two_digits n)
two_digits_plain n small = rw (digit_plain (48 + n / 10) (tens_digit n small), digit_plain (48 + n % 10) (units_digit n)) refl

number_of_two : (n : ℕ) → n < 100 → number_of (two_digits n) ≡ Some n
number_of_two n small = rw (tens_digit n small, units_digit n) (ap Some (omega (arith, div-add-mod n 10)))

-- ---- numbers

digits_back : (n : ℕ) → n < 1000000000 → digits_of (decimal n) ≡ Some n
digits_back n small =
    let few : length (decimal n) ≤ 9 = length-decimal-le 9 n (lit< tt) small (omega (arith, small)) in
    let test : nat_le (length (decimal n)) 18 ≡ true = grind (arith, nat_tests, few) in
    rw test (number_of_decimal n (omega (arith, small)))

pub number_back : (least most n : ℕ) → least ≤ n → n ≤ most → n < 1000000000 → number_between least most (decimal n) ≡ Ok n
unfolding number_between
number_back least most n low high small =
    let above : nat_le least n ≡ true = grind (arith, nat_tests, low) in
    let below : nat_le n most ≡ true = grind (arith, nat_tests, high) in
    rw (digits_back n small, above, below) refl

-- ---- marks

left_false : (s t : Bool) → (s || t) ≡ false → s ≡ false
left_false true t e = e
left_false false t e = refl

right_false : (s t : Bool) → (s || t) ≡ false → t ≡ false
right_false true t e = absurd (false≢true (sym e))
right_false false t e = e

-- no byte of a text is this one
abbrev pub lacks : ℕ → List ℕ → Type 0
lacks mark text = list_any (λ b. b == mark) text ≡ false

no_mark : (b mark : ℕ) → is_ascii_digit b ≡ true → is_ascii_digit mark ≡ false → (b == mark) ≡ false
no_mark b mark digit none = elim (cases_Bool (b == mark)) [
  | inl same ↦ absurd (false≢true (sym none ∙ ap is_ascii_digit (sym (eqb-true b mark same)) ∙ digit))
  | inr other ↦ other
]

digits_lack : (mark : ℕ) (text : List ℕ) → is_ascii_digit mark ≡ false → list_all is_ascii_digit text ≡ true → lacks mark text
digits_lack mark [] none digits = refl
digits_lack mark (b ∷ text) none digits =
    let (here, later) = both_true (is_ascii_digit b) (list_all is_ascii_digit text) digits in
    rw (no_mark b mark here none) (digits_lack mark text none later)

-- the place of a mark behind a text that lacks it
place_behind : (mark : ℕ) (front back : List ℕ) → lacks mark front → position_or_len (λ b. b == mark) (front ++ mark ∷ back) ≡ length front
place_behind mark [] back free =
    let same : (mark == mark) ≡ true = grind (arith, nat_tests) in
    rw same refl
place_behind mark (b ∷ front) back free =
    let later = place_behind mark front back (right_false (b == mark) _ free) in
    rw (left_false (b == mark) _ free) (omega (arith, later))

place_none : (mark : ℕ) (text : List ℕ) → lacks mark text → position_or_len (λ b. b == mark) text ≡ length text
place_none mark [] free = refl
place_none mark (b ∷ text) free =
    let later = place_none mark text (right_false (b == mark) _ free) in
    rw (left_false (b == mark) _ free) (omega (arith, later))

unsplit : (mark : ℕ) (text : List ℕ) → lacks mark text → split_once mark text ≡ None
unsplit mark text free =
    let test : nat_lt (length text) (length text) ≡ false = grind (arith, nat_tests) in
    rw (place_none mark text free, test) refl

split : (mark : ℕ) (front back : List ℕ) → lacks mark front → split_once mark (front ++ mark ∷ back) ≡ Some (front, back)
split mark front back free =
    let long : length (front ++ mark ∷ back) ≡ length front + suc (length back) = length-append front (mark ∷ back) in
    let test : nat_lt (length front) (length (front ++ mark ∷ back)) ≡ true = grind (arith, nat_tests, long) in
    rw (place_behind mark front back free, test, take-append_seam front (mark ∷ back), drop-append-add front (mark ∷ back) 1) refl

-- ---- fields

pub time_back : (n : ℕ) → n < 1000000 → time_of (decimal n) ≡ Ok n
time_back n small =
    rw (unsplit 58 (decimal n) (digits_lack 58 (decimal n) refl (decimal_digits n (omega (arith, small)))))
    (number_back 0 9999999999 n (omega arith) (omega (arith, small)) (omega (arith, small)))

pub side_plain : (is_buy : Bool) → IsPlain (side_text is_buy)
side_plain true = refl
side_plain false = refl

symbol_byte : (b : ℕ) → is_ascii_digit b ≡ true → is_symbol_byte b ≡ true
symbol_byte b digit = grind (arith, nat_tests)

-- the name of a symbol
abbrev pub symbol_text : ℕ → List ℕ
symbol_text n = codes "S" ++ two_digits n

pub symbol_plain : (n : ℕ) → n < 100 → IsPlain (symbol_text n)
symbol_plain n small = rw (two_digits_plain n small) refl

pub symbol_back : (n : ℕ) → n < 100 → symbol_of (symbol_text n) ≡ Ok (symbol_text n)
symbol_back n small =
    let tens = symbol_byte (48 + n / 10) (tens_digit n small) in
    let units = symbol_byte (48 + n % 10) (units_digit n) in
    rw (tens, units) refl

money_is : (cents : ℕ) → money cents ≡ decimal (cents / 100) ++ 46 ∷ two_digits (cents % 100)
money_is cents = append_assoc (decimal (cents / 100)) (46 ∷ []) (two_digits (cents % 100))

pub money_plain : (cents : ℕ) → cents < 1000000000 → IsPlain (money cents)
money_plain cents small =
    let cents_part = cents % 100 in
    let below : cents_part < 100 = mod-lt cents (lit< tt) in
    let units : cents / 100 < 1000000000 = omega (arith, small) in
    ap (list_all is_plain) (money_is cents) ∙ list_all-append is_plain (decimal (cents / 100)) (46 ∷ two_digits cents_part)
    ∙ rw (decimal_plain (cents / 100) units, digit_plain (48 + cents_part / 10) (tens_digit cents_part below), digit_plain (48 + cents_part % 10) (units_digit cents_part)) refl

-- whole units and two digits behind a point
parts_back : (text : List ℕ) (units cents : ℕ) → units < 1000000000 → cents < 100 → units * 100 + cents ≤ 100000000
    → cents_at 100000000 text (Some (decimal units, two_digits cents)) ≡ Ok (units * 100 + cents)
parts_back text units cents units_small cents_small within =
    let above : nat_le 0 (units * 100 + cents) ≡ true = grind (arith, nat_tests) in
    let below : nat_le (units * 100 + cents) 100000000 ≡ true = grind (arith, nat_tests, within) in
    rw (digits_back units units_small, number_of_two cents cents_small, above, below) refl

pub price_back : (cents : ℕ) → cents ≤ 100000000 → price_of (money cents) ≡ Ok cents
price_back cents small =
    let below : cents % 100 < 100 = mod-lt cents (lit< tt) in
    let units : cents / 100 < 1000000000 = omega (arith, small) in
    let whole : cents / 100 * 100 + cents % 100 ≡ cents = omega (arith, div-add-mod cents 100) in
    let free = digits_lack 46 (decimal (cents / 100)) refl (decimal_digits (cents / 100) (omega (arith, small))) in
    ap (λ text. cents_at 100000000 (money cents) (split_once 46 text)) (money_is cents) ∙ ap (cents_at 100000000 (money cents)) (split 46 (decimal (cents / 100)) (two_digits (cents % 100)) free)
    ∙ parts_back (money cents) (cents / 100) (cents % 100) units below (omega (arith, whole, small))
    ∙ ap Ok whole

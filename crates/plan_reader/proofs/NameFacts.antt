-- Numbers in the names of nodes are short.
use Rattle.std.proofs.Common.{ℕ, ◌≡◌, ◌<◌, ◌≤◌, ◌+◌, ◌-◌, ◌*◌, ◌^◌, Bool, true, false, List, length, refl, rules}
use Rattle.std.specs.Prelude.{Some, None, fold, if◌then◌else◌}
use Rattle.std.specs.Char.{is_ascii_digit}
use Rattle.std.specs.List.{list_all}
use Rattle.std.proofs.lemmas.Str.Parse.{IsNumeralModel, digits_value_short, numerals_by_fold}
use Rattle.text_words.proofs.LineFacts.{both_true}
use Rattle.text_words.specs.Numbers.{digits_value, is_number, number_of}

-- the words of this crate for digits and their value
numerals : IsNumeralModel (λ ds. list_all is_ascii_digit ds ≡ true) digits_value
numerals = numerals_by_fold _ (search rules) (λ n ds. fold (λ m d. m * 10 + (d - 48)) n ds) (search rules)

-- a number of so few digits is below that power of ten
pub number_short : (word : List ℕ) (n k : ℕ) → number_of word ≡ Some n → length word ≤ k → n < 10 ^ k
number_short word n k e few = go (is_number word) refl e
  where
    go : (b : Bool) → is_number word ≡ b → (if b then Some (digits_value word) else None) ≡ Some n → n < 10 ^ k
    go true t e =
        let (_, digits) = both_true _ (list_all is_ascii_digit word) t in
        let same : digits_value word ≡ n = cc e in
        rw same at (digits_value_short numerals word k digits few)
    go false t e = let z : ⊥ = cc e in absurd z

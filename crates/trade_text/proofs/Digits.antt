-- One or two digits are a small number.
use Rattle.std.proofs.Common.{ℕ, ◌≡◌, ◌≤◌, length, List, [], ◌∷◌, Some, arith}
use Rattle.std.proofs.lemmas.Bool.Decides.{nat_tests}
use Rattle.text_words.specs.Numbers.{number_of}

pub one_digit : (text : List ℕ) (n : ℕ) → length text ≡ 1 → number_of text ≡ Some n → n ≤ 9
one_digit [] n len e = absurd (omega arith)
one_digit (a ∷ []) n len e = grind (arith, nat_tests)
one_digit (a ∷ b ∷ text) n len e = absurd (omega arith)

pub two_digits : (text : List ℕ) (n : ℕ) → length text ≡ 2 → number_of text ≡ Some n → n ≤ 99
two_digits [] n len e = absurd (omega arith)
two_digits (a ∷ []) n len e = absurd (omega arith)
two_digits (a ∷ b ∷ []) n len e = grind (arith, nat_tests)
two_digits (a ∷ b ∷ c ∷ text) n len e = absurd (omega arith)

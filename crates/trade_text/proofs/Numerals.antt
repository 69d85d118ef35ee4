-- The text of a number.
use Rattle.std.proofs.Common.{ℕ, ℤ, pos, negsuc, ◌≡◌, ◌∙◌, ◌≤◌, ◌^◌, ◌∷◌, false, length, refl, sym, arith, int_le, unsigned_abs, true≢false}
use Rattle.std.proofs.Math.Dec.{leb-zero}
use Rattle.std.proofs.lemmas.Fmt.{length-decimal-le}
use Rattle.std.specs.Fmt.{decimal, signed_decimal}

-- a number of 64 bits has at most 19 digits behind its sign
pub few_digits : (n : ℕ) → n ≤ 2 ^ 63 → length (decimal n) ≤ 19
few_digits n low = length-decimal-le 19 n (omega arith) (omega arith) (omega arith)

-- the text of a number below zero is a minus and its digits
pub minus_first : (z : ℤ) → int_le (pos 0) z ≡ false → 45 ∷ decimal (unsigned_abs z) ≡ signed_decimal z
minus_first (pos n) negative = absurd (true≢false (sym (leb-zero n) ∙ negative))
minus_first (negsuc n) negative = refl

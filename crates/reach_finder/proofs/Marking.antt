-- One mark among rows, one row later.
use Rattle.std.proofs.Common.{ℕ, zero, suc, ◌≡◌, ◌+◌, Bool, true, false, List, [], ◌∷◌, ◌++◌, refl, replicate, set, sym, ap, ◌∙◌, arith}
use Rattle.std.specs.Prelude.{◌==◌}
use Rattle.row_origin.specs.Origins.{only}

replicate_more : (n : ℕ) → replicate (suc n) false ≡ replicate n false ++ false ∷ []
replicate_more zero = refl
replicate_more (suc n) = ap (λ (bs : List Bool). false ∷ bs) (replicate_more n)

same_sum : (n p : ℕ) → (suc n == suc p) ≡ (n == p)
same_sum n p = grind arith

not_first : (n : ℕ) → (suc n == 0) ≡ false
not_first n = grind arith

not_none : (p : ℕ) → (0 == suc p) ≡ false
not_none p = grind arith

set_more : (p n : ℕ) → set (replicate (suc n) false) p true ≡ set (replicate n false) p true ++ (n == p) ∷ []
set_more zero zero = refl
set_more (suc p) zero = ap (λ (b : Bool). b ∷ []) (sym (not_none p))
set_more zero (suc n) = ap (λ (bs : List Bool). true ∷ bs) (replicate_more n ∙ ap (λ (b : Bool). replicate n false ++ b ∷ []) (sym (not_first n)))
set_more (suc p) (suc n) = ap (λ (bs : List Bool). false ∷ bs) (set_more p n ∙ ap (λ (b : Bool). set (replicate n false) p true ++ b ∷ []) (sym (same_sum n p)))

pub only_more : (p n : ℕ) → only p (n + 1) ≡ only p n ++ (n == p) ∷ []
only_more p n = ap (λ m. only p m) (let e : n + 1 ≡ suc n = omega arith in e) ∙ set_more p n

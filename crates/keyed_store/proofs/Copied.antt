-- The last of a list that fits.
use Rattle.std.proofs.Common.{ℕ, ◌≡◌, ◌≤◌, ◌+◌, ◌-◌, List, [], ◌∷◌, ◌++◌, length, drop, ap, arith, length-append}
use Rattle.circular_buffer.specs.Buffer.{keep_last}

pub keep_last-fits : {X : Type 0} (n : ℕ) (xs : List X) → length xs ≤ n → keep_last n xs ≡ xs
keep_last-fits n xs fits =
    let none : length xs - n ≡ 0 = omega arith in
    ap (λ m. drop m xs) none

-- one more of a list of which a front was copied
pub copied-more : {X : Type 0} (n : ℕ) (front : List X) (x : X) (rest : List X) → length (front ++ x ∷ rest) ≤ n → keep_last n (front ++ x ∷ []) ≡ front ++ x ∷ []
copied-more n front x rest fits =
    let whole : length (front ++ x ∷ rest) ≡ length front + (length rest + 1) = simp length-append (omega arith) in
    let part : length (front ++ x ∷ []) ≡ length front + 1 = simp length-append (omega arith) in
    keep_last-fits n (front ++ x ∷ []) (omega arith)

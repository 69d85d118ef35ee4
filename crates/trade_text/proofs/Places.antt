-- The one place of a field in a header.
use Rattle.std.proofs.Common.{ℕ, suc, zero, ◌≡◌, ◌+◌, ◌<◌, ◌≤◌, Bool, true, false, not, cond, List, [], ◌∷◌, length, Option, Some, None, take, get_or, count_by, position, is_some, nat_lt, refl, ◌∙◌, arith}
use Rattle.std.proofs.lemmas.Bool.{true≢false}
use Rattle.std.proofs.lemmas.Bool.Decides.{nat_tests}
use Rattle.std.proofs.lemmas.List.Sums.{count_by_more_yes, sum_by-take-drop}
use Rattle.std.specs.List.{position_or_len}

later : {A : Type 0} (p : A → Bool) (x : A) (b : Bool) (xs : List A) (i : ℕ) (d : A) → p x ≡ b → i < length xs → cond (not (p x)) (1 + position_or_len p (take i xs)) 0 ≡ suc i → p (get_or xs i d) ≡ true
    → (position_or_len p (take i xs) ≡ i → p (get_or xs i d) ≡ true → position_or_len p xs ≡ i) → cond (not (p x)) (1 + position_or_len p xs) 0 ≡ suc i
later p x true xs i d is here none at next = let e : 0 ≡ suc i = rw is at none in absurd (omega arith)
later p x false xs i d is here none at next =
    let e : 1 + position_or_len p (take i xs) ≡ suc i = rw is at none in
    let f : position_or_len p xs ≡ i = next (omega arith) at in
    rw is (omega arith)

-- the first element that passes a test
pub first_at : {A : Type 0} (p : A → Bool) (xs : List A) (i : ℕ) (d : A) → i < length xs → position_or_len p (take i xs) ≡ i → p (get_or xs i d) ≡ true
    → position_or_len p xs ≡ i
first_at p [] i d here none at = absurd (omega arith)
first_at p (x ∷ xs) zero d here none at = rw at refl
first_at p (x ∷ xs) (suc i) d here none at = later p x (p x) xs i d refl (omega arith) none at (first_at p xs i d (omega arith))

-- a part has no more elements that pass a test
pub count_by-take : {A : Type 0} (p : A → Bool) (xs : List A) (n : ℕ) → count_by p (take n xs) ≤ count_by p xs
count_by-take p xs n = let e = sum_by-take-drop (λ x. cond (p x) 1 0) xs n in omega (arith, e)

-- a test that passes at one place
pub position-first : {A : Type 0} (p : A → Bool) (xs : List A) (i : ℕ) (d : A) → i < length xs → position_or_len p (take i xs) ≡ i → p (get_or xs i d) ≡ true
    → position p xs ≡ Some i
position-first p xs i d here none at =
    let first : position_or_len p xs ≡ i = first_at p xs i d here none at in
    let test : nat_lt i (length xs) ≡ true = grind (arith, nat_tests) in
    rw (first, test) refl

-- what was found among the first of these: nothing, or the one place
abbrev pub IsFound : {A : Type 0} → (A → Bool) → List A → ℕ → Option ℕ → Type 0
IsFound p xs n None = (position_or_len p (take n xs) ≡ n) × (count_by p (take n xs) ≡ 0)
IsFound p xs n (Some i) = (position p xs ≡ Some i) × (count_by p (take n xs) ≡ 1)

-- nothing was found before, and the next element passes
pub found_here : {A : Type 0} (p : A → Bool) (xs : List A) (n : ℕ) (d : A) (found : Option ℕ) → IsFound p xs n found → is_some found ≡ false → n < length xs → p (get_or xs n d) ≡ true
    → IsFound p xs (n + 1) (Some n)
found_here p xs n d None so_far none here at = (position-first p xs n d here so_far.0 at, count_by_more_yes p xs n d here at ∙ omega (arith, so_far.1))
found_here p xs n d (Some i) so_far none here at = absurd (true≢false none)

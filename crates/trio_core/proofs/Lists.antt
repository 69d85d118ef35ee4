-- One element of a list written, and lists related one by one.
use Rattle.std.proofs.Common.{◌≡◌, ◌≢◌, ◌∙◌, ◌<◌, ℕ, zero, suc, List, [], ◌∷◌, ◌++◌, Option, None, Some, length, slice_get, slice_index_or, slice_set, refl, sym, ap, subst, unwrap_or, arith}
use Rattle.pair_machine.specs.Courses.{Pairwise}
use Rattle.pair_machine.specs.Machine.{nth_from_one}

pub set_same : {X : Type 0} (xs : List X) (i : ℕ) (x y : X) → slice_get xs i ≡ Some x → slice_get (slice_set xs i y) i ≡ Some y
set_same [] i x y e = let z : ⊥ = cc e in absurd z
set_same (z ∷ xs) zero x y e = refl
set_same (z ∷ xs) (suc i) x y e = set_same xs i x y e

pub set_other : {X : Type 0} (xs : List X) (i j : ℕ) (y : X) → j ≢ i → slice_get (slice_set xs i y) j ≡ slice_get xs j
set_other [] i j y ne = refl
set_other (z ∷ xs) zero zero y ne = absurd (ne refl)
set_other (z ∷ xs) zero (suc j) y ne = refl
set_other (z ∷ xs) (suc i) zero y ne = refl
set_other (z ∷ xs) (suc i) (suc j) y ne = set_other xs i j y (λ e. ne (ap suc e))

pub length_set : {X : Type 0} (xs : List X) (i : ℕ) (y : X) → length (slice_set xs i y) ≡ length xs
length_set [] i y = refl
length_set (x ∷ xs) zero y = refl
length_set (x ∷ xs) (suc i) y = let r = length_set xs i y in omega arith

pub get_at : {X : Type 0} (xs : List X) (i : ℕ) (x : X) → i < length xs → x ≡ slice_index_or xs i x → slice_get xs i ≡ Some x
get_at [] i x l e = absurd (omega (arith, l))
get_at (y ∷ xs) zero x l e = ap Some (sym e)
get_at (y ∷ xs) (suc i) x l e = get_at xs i x (omega arith) e

pub same_there : {X : Type 0} (o : Option X) (x y : X) → o ≡ Some x → o ≡ Some y → x ≡ y
same_there o x y e f = ap (λ p. unwrap_or p x) (sym e ∙ f)

-- ---- related one by one

pub pairwise_append : {X Y : Type 0} (R : X → Y → Type 0) (xs : List X) (as_ : List Y) (ys : List X) (bs : List Y) → Pairwise R xs as_ → Pairwise R ys bs → Pairwise R (xs ++ ys) (as_ ++ bs)
pairwise_append R [] [] ys bs h k = k
pairwise_append R [] (a ∷ more) ys bs h k = absurd h
pairwise_append R (x ∷ xs) [] ys bs h k = absurd h
pairwise_append R (x ∷ xs) (a ∷ more) ys bs h k = (h.0, pairwise_append R xs more ys bs h.1 k)

pairwise_at : {X Y : Type 0} (R : X → Y → Type 0) (xs : List X) (ys : List Y) (k : ℕ) (x : X) → Pairwise R xs ys → slice_get xs k ≡ Some x → (y : Y) × (slice_get ys k ≡ Some y) × R x y
pairwise_at R [] ys k x h e = let z : ⊥ = cc e in absurd z
pairwise_at R (a ∷ xs) [] k x h e = absurd h
pairwise_at R (a ∷ xs) (b ∷ ys) zero x h e = (b, refl, subst (λ z. R z b) (ap (λ o. unwrap_or o a) e) h.0)
pairwise_at R (a ∷ xs) (b ∷ ys) (suc k) x h e = pairwise_at R xs ys k x h.1 e

pairwise_none : {X Y : Type 0} (R : X → Y → Type 0) (xs : List X) (ys : List Y) (k : ℕ) → Pairwise R xs ys → slice_get xs k ≡ None → slice_get ys k ≡ None
pairwise_none R [] [] k h e = refl
pairwise_none R [] (b ∷ ys) k h e = absurd h
pairwise_none R (a ∷ xs) [] k h e = refl
pairwise_none R (a ∷ xs) (b ∷ ys) zero h e = let z : ⊥ = cc e in absurd z
pairwise_none R (a ∷ xs) (b ∷ ys) (suc k) h e = pairwise_none R xs ys k h.1 e

pub pairwise_length : {X Y : Type 0} (R : X → Y → Type 0) (xs : List X) (ys : List Y) → Pairwise R xs ys → length xs ≡ length ys
pairwise_length R [] [] h = refl
pairwise_length R [] (b ∷ ys) h = absurd h
pairwise_length R (a ∷ xs) [] h = absurd h
pairwise_length R (a ∷ xs) (b ∷ ys) h = let r = pairwise_length R xs ys h.1 in omega arith

pub nth_at : {X Y : Type 0} (R : X → Y → Type 0) (xs : List X) (ys : List Y) (k : ℕ) (x : X) → Pairwise R xs ys → nth_from_one xs k ≡ Some x → (y : Y) × (nth_from_one ys k ≡ Some y) × R x y
nth_at R xs ys zero x h e = let z : ⊥ = cc e in absurd z
nth_at R xs ys (suc k) x h e = pairwise_at R xs ys k x h e

pub nth_none : {X Y : Type 0} (R : X → Y → Type 0) (xs : List X) (ys : List Y) (k : ℕ) → Pairwise R xs ys → nth_from_one xs k ≡ None → nth_from_one ys k ≡ None
nth_none R xs ys zero h e = refl
nth_none R xs ys (suc k) h e = pairwise_none R xs ys k h e

-- One element of a list written, and lists mapped.
use Rattle.std.proofs.Common.{◌≡◌, ◌∙◌, ℕ, zero, suc, ◌<◌, ◌+◌, List, [], ◌∷◌, ◌++◌, Option, Some, length, map, slice_get, slice_index_or, slice_set, refl, sym, ap, unwrap_or, arith}
use Rattle.std.specs.Option.{option_map}

pub set-same : {X : Type 0} (xs : List X) (i : ℕ) (x y : X) → slice_get xs i ≡ Some x → slice_get (slice_set xs i y) i ≡ Some y
set-same [] i x y e = let z : ⊥ = cc e in absurd z
set-same (z ∷ xs) zero x y e = refl
set-same (z ∷ xs) (suc i) x y e = set-same xs i x y e

pub get-map : {X Y : Type 0} (f : X → Y) (xs : List X) (i : ℕ) → slice_get (map f xs) i ≡ option_map f (slice_get xs i)
get-map f [] i = refl
get-map f (z ∷ xs) zero = refl
get-map f (z ∷ xs) (suc i) = get-map f xs i

pub map-twice : {X : Type 0} (f : X → X) → ((x : X) → f (f x) ≡ f x) → (xs : List X) → map f (map f xs) ≡ map f xs
map-twice f h [] = refl
map-twice f h (x ∷ xs) = λ i. h x i ∷ map-twice f h xs i

-- what a place of a mapped list has comes of what the list has there
pub get-back : {X Y : Type 0} (f : X → Y) (xs : List X) (i : ℕ) (y : Y) → slice_get (map f xs) i ≡ Some y → (x : X) × (slice_get xs i ≡ Some x) × (f x ≡ y)
get-back f [] i y e = let z : ⊥ = cc e in absurd z
get-back f (x ∷ xs) zero y e = (x, refl, ap (λ o. unwrap_or o y) e)
get-back f (x ∷ xs) (suc i) y e = get-back f xs i y e

pub length-map-of : {X Y : Type 0} (f : X → Y) (xs : List X) → length (map f xs) ≡ length xs
length-map-of f [] = refl
length-map-of f (x ∷ xs) = let r = length-map-of f xs in omega arith

-- the element at a place of a mapped list, where what stands for a missing one is mapped to itself
pub get_or-map : {X : Type 0} (f : X → X) (xs : List X) (i : ℕ) (d : X) → f d ≡ d → slice_index_or (map f xs) i d ≡ f (slice_index_or xs i d)
get_or-map f [] i d e = sym e
get_or-map f (x ∷ xs) zero d e = refl
get_or-map f (x ∷ xs) (suc i) d e = get_or-map f xs i d e

pub get-at : {X : Type 0} (xs : List X) (i : ℕ) (x : X) → i < length xs → x ≡ slice_index_or xs i x → slice_get xs i ≡ Some x
get-at [] i x l e = absurd (omega (arith, l))
get-at (y ∷ xs) zero x l e = ap Some (sym e)
get-at (y ∷ xs) (suc i) x l e = get-at xs i x (omega arith) e

pub same-there : {X : Type 0} (o : Option X) (x y : X) → o ≡ Some x → o ≡ Some y → x ≡ y
same-there o x y e f = ap (λ p. unwrap_or p x) (sym e ∙ f)

-- ---- one list behind another

pub get-left : {X : Type 0} (xs ys : List X) (i : ℕ) → i < length xs → slice_get (xs ++ ys) i ≡ slice_get xs i
get-left [] ys i l = absurd (omega (arith, l))
get-left (x ∷ xs) ys zero l = refl
get-left (x ∷ xs) ys (suc i) l = get-left xs ys i (omega arith)

pub get-right : {X : Type 0} (xs ys : List X) (i : ℕ) → slice_get (xs ++ ys) (length xs + i) ≡ slice_get ys i
get-right [] ys i = ap (slice_get ys) {x = 0 + i} {y = i} (omega arith)
get-right (x ∷ xs) ys i = let e : length (x ∷ xs) + i ≡ suc (length xs + i) = omega arith in ap (slice_get (x ∷ xs ++ ys)) e ∙ get-right xs ys i

pub none-there : {X : Type 0} (xs : List X) → length xs ≡ 0 → xs ≡ []
none-there [] e = refl
none-there (x ∷ xs) e = absurd (omega (arith, e))

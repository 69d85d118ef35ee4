-- Lists by their places.
use Rattle.std.proofs.Common.{◌≡◌, ◌+◌, ◌<◌, ℕ, zero, suc, List, [], ◌∷◌, ◌++◌, length, get_or, set, take, drop, refl, ap, ◌∙◌, subst, arith}
use Rattle.std.specs.Prelude.{Some, map, slice_get, slice_set}
use Rattle.pair_machine.specs.Lists.{Each}

module _ {X Y : Type 0} (f : X → Y) where
  -- an element was replaced by one that looks the same
  pub map_set_same : (xs : List X) (i : ℕ) (new d : X) → f new ≡ f (get_or xs i d) → map f (set xs i new) ≡ map f xs
  map_set_same [] i new d e = refl
  map_set_same (x ∷ xs) zero new d e = ap (λ y. y ∷ map f xs) e
  map_set_same (x ∷ xs) (suc i) new d e = ap (λ ys. f x ∷ ys) (map_set_same xs i new d e)

module _ {X : Type 0} where
  -- a fact holds of each element once it holds of those before and of the new one
  pub each_set : (P Q : X → Type 0) (xs : List X) (i : ℕ) (new : X) → ((x : X) → P x → Q x) → Each P xs → Q new → Each Q (set xs i new)
  each_set P Q [] i new g h k = tt
  each_set P Q (x ∷ xs) zero new g h k = (k, rest xs h.1)
    where
      rest : (ys : List X) → Each P ys → Each Q ys
      rest [] h = tt
      rest (y ∷ ys) h = (g y h.0, rest ys h.1)
  each_set P Q (x ∷ xs) (suc i) new g h k = (g x h.0, each_set P Q xs i new g h.1 k)

  pub each_at_place : (P : X → Type 0) (xs : List X) (i : ℕ) (d : X) → Each P xs → i < length xs → P (get_or xs i d)
  each_at_place P [] i d h lt = absurd (omega arith)
  each_at_place P (y ∷ ys) zero d h lt = h.0
  each_at_place P (y ∷ ys) (suc i) d h lt = each_at_place P ys i d h.1 (omega arith)

  -- a fact that holds of the first elements holds of one more
  pub each_take : (P : X → Type 0) (xs : List X) (i : ℕ) (new : X) → i < length xs → Each P (take i xs) → P new → Each P (take (suc i) (set xs i new))
  each_take P [] i new lt h k = absurd (omega arith)
  each_take P (x ∷ xs) zero new lt h k = (k, tt)
  each_take P (x ∷ xs) (suc i) new lt h k = (h.0, each_take P xs i new (omega arith) h.1 k)

  pub each_whole : (P : X → Type 0) (xs : List X) (i : ℕ) → length xs ≡ i → Each P (take i xs) → Each P xs
  each_whole P [] i e h = tt
  each_whole P (x ∷ xs) zero e h = absurd (omega arith)
  each_whole P (x ∷ xs) (suc i) e h = (h.0, each_whole P xs i (omega arith) h.1)

  pub each_take_more : (P : X → Type 0) (xs : List X) (i : ℕ) (d : X) → i < length xs → Each P (take i xs) → P (get_or xs i d) → Each P (take (suc i) xs)
  each_take_more P [] i d lt h k = absurd (omega arith)
  each_take_more P (y ∷ ys) zero d lt h k = (k, tt)
  each_take_more P (y ∷ ys) (suc i) d lt h k = (h.0, each_take_more P ys i d (omega arith) h.1 k)

  -- the same with the next place as code counts it
  pub each_take_next : (P : X → Type 0) (xs : List X) (i : ℕ) (new : X) → i < length xs → Each P (take i xs) → P new → Each P (take (i + 1) (set xs i new))
  each_take_next P xs i new lt h k = let one : suc i ≡ i + 1 = omega arith in subst (λ j. Each P (take j (set xs i new))) one (each_take P xs i new lt h k)

  pub each_take_one : (P : X → Type 0) (xs : List X) (i : ℕ) (d : X) → i < length xs → Each P (take i xs) → P (get_or xs i d) → Each P (take (i + 1) xs)
  each_take_one P xs i d lt h k = let one : suc i ≡ i + 1 = omega arith in subst (λ j. Each P (take j xs)) one (each_take_more P xs i d lt h k)

  pub each_last : (P : X → Type 0) (xs : List X) (x : X) → Each P (xs ++ x ∷ []) → P x
  each_last P [] x h = h.0
  each_last P (y ∷ xs) x h = each_last P xs x h.1

  pub each_front : (P : X → Type 0) (xs ys : List X) → Each P (xs ++ ys) → Each P xs
  each_front P [] ys h = tt
  each_front P (x ∷ xs) ys h = (h.0, each_front P xs ys h.1)

  pub each_lift : (P Q : X → Type 0) → ((x : X) → P x → Q x) → (xs : List X) → Each P xs → Each Q xs
  each_lift P Q g [] h = tt
  each_lift P Q g (x ∷ xs) h = (g x h.0, each_lift P Q g xs h.1)

  -- what a slice of a whole vector wrote is all of it
  pub written : (n : ℕ) (xs ys : List X) → length xs ≡ n → take n (xs ++ drop (length xs) ys) ≡ xs
  written n xs ys e = subst (λ m. take m (xs ++ drop (length xs) ys) ≡ xs) e (front xs (drop (length xs) ys))
    where
      front : (us vs : List X) → take (length us) (us ++ vs) ≡ us
      front [] vs = refl
      front (u ∷ us) vs = ap (λ l. u ∷ l) (front us vs)

  -- the element at a place stands first in what is left from there
  pub drop_at : (xs : List X) (i : ℕ) (x : X) → slice_get xs i ≡ Some x → drop i xs ≡ x ∷ drop (i + 1) xs
  drop_at xs i x e = let one : suc i ≡ i + 1 = omega arith in subst (λ j. drop i xs ≡ x ∷ drop j xs) one (go xs i e)
    where
      go : (ys : List X) (k : ℕ) → slice_get ys k ≡ Some x → drop k ys ≡ x ∷ drop (suc k) ys
      go [] k e = cc
      go (y ∷ ys) zero e = let same : y ≡ x = cc e in ap (λ z. z ∷ ys) same
      go (y ∷ ys) (suc k) e = go ys k e

  pub get_there : (xs : List X) (i : ℕ) (d : X) → i < length xs → slice_get xs i ≡ Some (get_or xs i d)
  get_there [] i d lt = absurd (omega arith)
  get_there (x ∷ xs) zero d lt = refl
  get_there (x ∷ xs) (suc i) d lt = get_there xs i d (omega arith)

  pub each_take_by : (P : X → Type 0) (xs : List X) (i : ℕ) → i < length xs → Each P (take i xs) → ((x : X) → slice_get xs i ≡ Some x → P x) → Each P (take (i + 1) xs)
  each_take_by P xs i lt h k = let one : suc i ≡ i + 1 = omega arith in subst (λ j. Each P (take j xs)) one (go xs i lt h k)
    where
      go : (ys : List X) (n : ℕ) → n < length ys → Each P (take n ys) → ((x : X) → slice_get ys n ≡ Some x → P x) → Each P (take (suc n) ys)
      go [] n lt h k = absurd (omega arith)
      go (y ∷ ys) zero lt h k = (k y refl, tt)
      go (y ∷ ys) (suc n) lt h k = (h.0, go ys n (omega arith) h.1 k)

  -- the same by what stands there: `Some` at the place tells that the place is one of the list
  pub each_unset_by : (P : X → Type 0) (xs : List X) (i : ℕ) (x new : X) → slice_get xs i ≡ Some x → (P new → P x) → Each P (slice_set xs i new) → Each P xs
  each_unset_by P [] i x new e g h = tt
  each_unset_by P (y ∷ ys) zero x new e g h = let same : x ≡ y = cc e in (subst P same (g h.0), h.1)
  each_unset_by P (y ∷ ys) (suc i) x new e g h = (h.0, each_unset_by P ys i x new e g h.1)

  pub each_set_by : (P : X → Type 0) (xs : List X) (i : ℕ) (x new : X) → slice_get xs i ≡ Some x → Each P (slice_set xs i new) → P new
  each_set_by P [] i x new e h = cc
  each_set_by P (y ∷ ys) zero x new e h = h.0
  each_set_by P (y ∷ ys) (suc i) x new e h = each_set_by P ys i x new e h.1

  -- what was put at a place stands there
  pub set_there : (xs : List X) (i : ℕ) (new x : X) → slice_get (slice_set xs i new) i ≡ Some x → new ≡ x
  set_there [] i new x e = cc
  set_there (y ∷ ys) zero new x e = cc e
  set_there (y ∷ ys) (suc i) new x e = set_there ys i new x e

  pub within_set : (xs : List X) (i : ℕ) (new : X) → i < length xs → i < length (slice_set xs i new)
  within_set [] i new lt = absurd (omega arith)
  within_set (y ∷ ys) zero new lt = omega arith
  within_set (y ∷ ys) (suc i) new lt = let rest = within_set ys i new (omega arith) in omega arith

module _ {X Y : Type 0} (f : X → Y) where
  pub map_set_by : (xs : List X) (i : ℕ) (x new : X) → slice_get xs i ≡ Some x → f new ≡ f x → map f (slice_set xs i new) ≡ map f xs
  map_set_by [] i x new e same = refl
  map_set_by (y ∷ ys) zero x new e same = let here : x ≡ y = cc e in ap (λ z. z ∷ map f ys) (same ∙ ap f here)
  map_set_by (y ∷ ys) (suc i) x new e same = ap (λ zs. f y ∷ zs) (map_set_by ys i x new e same)

  -- what stands at a place, and what is put there
  pub map_get : (xs : List X) (i : ℕ) (x : X) → slice_get xs i ≡ Some x → slice_get (map f xs) i ≡ Some (f x)
  map_get [] i x e = cc
  map_get (y ∷ ys) zero x e = let here : y ≡ x = cc e in ap (λ z. Some (f z)) here
  map_get (y ∷ ys) (suc i) x e = map_get ys i x e

  pub map_set : (xs : List X) (i : ℕ) (new : X) → map f (slice_set xs i new) ≡ slice_set (map f xs) i (f new)
  map_set [] i new = refl
  map_set (y ∷ ys) zero new = refl
  map_set (y ∷ ys) (suc i) new = ap (λ zs. f y ∷ zs) (map_set ys i new)

  pub within_map : (xs : List X) (i : ℕ) → i < length (map f xs) → i < length xs
  within_map [] i lt = absurd (omega arith)
  within_map (y ∷ ys) zero lt = omega arith
  within_map (y ∷ ys) (suc i) lt = let rest = within_map ys i (omega arith) in omega arith

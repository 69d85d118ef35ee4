-- Fronts of lists.
use Rattle.std.proofs.Common.{◌≡◌, ◌≤◌, ℕ, zero, suc, List, [], ◌∷◌, ◌++◌, length, take, drop, refl, ap, subst, arith}
use Rattle.std.proofs.lemmas.List.{take-append-drop}
use mathlib.Core.List.{IsPrefix}

module _ {A : Type 0} where
  pub front_of : (ys xs : List A) → IsPrefix ys xs → ys ≡ take (length ys) xs
  front_of [] xs p = refl
  front_of (y ∷ ys) xs p = subst (λ (l : List A). y ∷ ys ≡ take (suc (length ys)) l) p.1 (ap (λ l. y ∷ l) (front_of ys (ys ++ p.0) (p.0, refl)))

  pub take_front : (a : ℕ) (xs : List A) → IsPrefix (take a xs) xs
  take_front a xs = (drop a xs, take-append-drop a xs)

  pub take_more : (a b : ℕ) (xs : List A) → a ≤ b → IsPrefix (take a xs) (take b xs)
  take_more zero b xs l = (take b xs, refl)
  take_more (suc a) zero xs l = absurd (omega (arith, l))
  take_more (suc a) (suc b) [] l = ([], refl)
  take_more (suc a) (suc b) (x ∷ xs) l = let t = take_more a b xs (omega (arith, l)) in (t.0, ap (λ l. x ∷ l) t.1)

  pub length-take_front : (a : ℕ) (xs : List A) → a ≤ length xs → length (take a xs) ≡ a
  length-take_front zero xs l = refl
  length-take_front (suc a) [] l = absurd (omega (arith, l))
  length-take_front (suc a) (x ∷ xs) l = ap suc (length-take_front a xs (omega (arith, l)))

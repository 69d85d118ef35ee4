-- Fronts of lists of rows.
use Rattle.std.proofs.Common.{◌≡◌, ◌∙◌, ◌≤◌, suc, List, [], ◌∷◌, ◌++◌, length, take, refl, sym, ap, subst, append_assoc, arith}
use mathlib.Core.List.{IsPrefix}
use Rattle.tuple_edge.specs.declared.row.Row.{Row}

pub prefix_more : (xs ys zs : List Row) → IsPrefix xs ys → IsPrefix ys zs → IsPrefix xs zs
prefix_more xs ys zs a b = (a.0 ++ b.0, sym (append_assoc xs a.0 b.0) ∙ (ap (λ l. l ++ b.0) a.1 ∙ b.1))

pub prefix_take : (ys xs : List Row) → IsPrefix ys xs → take (length ys) xs ≡ ys
prefix_take [] xs p = refl
prefix_take (y ∷ ys) xs p = subst (λ (l : List Row). take (suc (length ys)) l ≡ y ∷ ys) p.1 (ap (λ l. y ∷ l) (prefix_take ys (ys ++ p.0) (p.0, refl)))

pub prefix_length : (ys xs : List Row) → IsPrefix ys xs → length ys ≤ length xs
prefix_length [] xs p = omega arith
prefix_length (y ∷ ys) xs p = subst (λ (l : List Row). suc (length ys) ≤ length l) p.1 (let k = prefix_length ys (ys ++ p.0) (p.0, refl) in omega (arith, k))

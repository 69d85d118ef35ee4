-- Counts of inputs, and the input at a place.
use Rattle.std.proofs.Common.{ℕ, ◌≡◌, ◌<◌, ◌+◌, Bool, true, false, cond, List, Some, get_or, length, sym, take}
use Rattle.std.specs.Prelude.{count_by}
use Rattle.std.proofs.lemmas.List.Sums.{count_by_more_no, count_by_more_yes}

-- one more element is counted, or isn't
pub count_more : {X : Type 0} (p : X → Bool) (xs : List X) (i : ℕ) (d : X) (t : Bool) → i < length xs → t ≡ p (get_or xs i d) → cond t (count_by p (take i xs) + 1) (count_by p (take i xs)) ≡ count_by p (take (i + 1) xs)
count_more p xs i d true within is = sym (count_by_more_yes p xs i d within (sym is))
count_more p xs i d false within is = sym (count_by_more_no p xs i d within (sym is))

pub of_some : {X : Type 0} (x y : X) → Some x ≡ Some y → x ≡ y
of_some x y e = cc

-- Numbers that stop at a bound, and their sums.
use Rattle.std.specs.Prelude.{ℤ, pos, neg_ℤ, ◌≤ℤ◌, ◌+ℤ◌, List, fold}
use Rattle.std.specs.Int.{int_max, int_min}
pub use Rattle.tuple_edge.specs.Limits.{big}

-- a number cut to the bounds
abbrev pub clamp : ℤ → ℤ
clamp z = int_max (neg_ℤ (pos big)) (int_min z (pos big))

-- a sum that stops at the bounds
abbrev pub saturating_sum : ℤ → ℤ → ℤ
saturating_sum a b = clamp (a +ℤ b)

-- the sum of a list in order, from 0, cut after each addition
abbrev pub total_of : List ℤ → ℤ
total_of zs = fold saturating_sum (pos 0) zs

-- a number lies within the bounds
pub record IsWithin (z : ℤ) : Type 0 where
  pub low : neg_ℤ (pos big) ≤ℤ z
  pub high : z ≤ℤ pos big

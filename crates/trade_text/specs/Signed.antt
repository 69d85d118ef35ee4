-- What a side does to a number.
use Rattle.std.specs.Prelude.{ℕ, ℤ, pos, neg_ℤ}
use Rattle.trade_text.specs.declared.fields.Side.{Side}
use Rattle.trade_text.specs.declared.fields.Side.TheVariants as side

-- a number as it counts: below zero for a sale
abbrev pub signed : Side → ℕ → ℤ
signed side.Buy n = pos n
signed side.Sell n = neg_ℤ (pos n)

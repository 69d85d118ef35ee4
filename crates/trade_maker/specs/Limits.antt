-- The limits of made trades: the states of the generator, and how many trades are made at most.
use Rattle.std.specs.Prelude.{ℕ}
pub use Rattle.trade_text.specs.Limits.{max_inputs}

-- a state is below this
abbrev pub states : ℕ
states = 2147483648

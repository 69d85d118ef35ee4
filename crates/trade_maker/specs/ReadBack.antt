-- Texts of trades, and how many they say.
use Rattle.std.specs.Prelude.{ℕ, ◌≡◌, List, length, Ok}
use Rattle.trade_text.specs.Trades.{trades_of}
use Rattle.trade_text.specs.TradesView.{TradesView}

-- a text reads as so many trades, and nothing in it is refused
abbrev pub SaysTrades : List ℕ → ℕ → Type 0
SaysTrades text count = (trades : TradesView) × (trades_of text ≡ Ok trades) × (length trades.rows ≡ count)

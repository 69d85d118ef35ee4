-- What comes over a reader, and what a file says.
use Rattle.std.specs.Prelude.{ℕ, ◌≡◌, ◌≤◌, List, None, Ok, length}
use Rattle.trade_text.specs.Limits.{max_input_bytes, max_inputs}
use Rattle.trade_text.specs.Streams.{told_of}
use Rattle.trade_text.specs.Trades.{trades_of}
use Rattle.trade_text.specs.TradesView.{only_trades}

-- Bytes that come without a fault are read as the file that has them, where that isn't too long: the same rows, and the same symbols.
abbrev pub TellsAsFile : List ℕ → Type 0
TellsAsFile bytes = (told_of bytes).fault ≡ None → length bytes ≤ max_input_bytes → length (told_of bytes).rows ≤ max_inputs
    → trades_of bytes ≡ Ok (only_trades (told_of bytes).rows (told_of bytes).symbols)

use Rattle.std.proofs.Common.{◌≡◌, ℕ, List, Some}
use Rattle.std.specs.Io.Buffered.{reader_remaining}
use Rattle.trade_text.proofs.StreamFacts.{IsFront}
use Rattle.trade_text.proofs.stream_bytes.StreamBytes.open.Given as goal

abbrev pub invariant-loop : goal.invariant-loop
invariant-loop g l = (text : List ℕ) → g.R.Read.remaining l.fn.source ≡ Some text → IsFront text l.front.items (reader_remaining g.R.Read.remaining l.source) l.counter

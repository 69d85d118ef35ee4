use Rattle.std.proofs.Common.{◌≡◌, length, take}
use Rattle.trade_text.specs.TradesView.{paired}
use Rattle.trade_text.proofs.merging.parted.Given as goal

abbrev pub invariant-loop-input : goal.invariant-loop-input
invariant-loop-input l = record {
  inputs : paired l.rows.items l.sources.items ≡ take l.input-index l.inputs;
  many : length l.sources.items ≡ length l.rows.items;
}

use Rattle.std.proofs.Common.{◌≡◌}
use Rattle.trade_text.specs.Text.{part_text}
use Rattle.ordered_channel.specs.Ends.{receives_from, values_got}
use Rattle.row_wire.specs.Written.{IsWritten}
use Rattle.row_wire.proofs.writing.write_received.Given as goal

abbrev pub invariant-loop : goal.invariant-loop
invariant-loop g l = record {
  written : IsWritten (g.W.Wire.told l.fn.wire) (g.W.Wire.told l.wire) (part_text l.trades.symbols (values_got l.receiver)) l.written;
  channel : receives_from l.receiver ≡ receives_from l.fn.receiver;
}

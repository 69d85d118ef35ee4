use Rattle.std.proofs.Common.{◌≡◌, ◌+◌, ◌≤◌, length}
use Rattle.trade_line.specs.Lines.{record_from, record_in}
use Rattle.trade_text.specs.RecordStates.{state_of}
use Rattle.trade_line.proofs.lines.record_in.Given as goal

abbrev pub invariant-loop-byte : goal.invariant-loop-byte
invariant-loop-byte l = record {
  value : record_from l.wanted (state_of l.state) l.records l.line l.rest ≡ record_in l.fn.text l.wanted;
  records : l.records + length l.rest ≤ length l.fn.text;
  lines : l.line + length l.rest ≤ length l.fn.text + 1;
}

abbrev pub decreases-loop-byte : goal.decreases-loop-byte
decreases-loop-byte l = length l.rest

use Rattle.std.proofs.Common.{◌≡◌, ◌+◌, ◌-◌, ◌≤◌, length}
use Rattle.input_faults.specs.Records.{field_len}
use Rattle.trade_text.specs.RecordStates.{state_of}
use Rattle.input_faults.proofs.records.field_len.Given as goal

abbrev pub invariant-loop-byte : goal.invariant-loop-byte
invariant-loop-byte l = record {
  value : field_len (state_of l.fn.state) l.fn.text ≡ (length l.fn.text - length l.rest) + field_len (state_of l.state) l.rest;
  within : length l.rest ≤ length l.fn.text;
}

abbrev pub decreases-loop-byte : goal.decreases-loop-byte
decreases-loop-byte l = length l.rest

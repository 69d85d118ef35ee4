use Rattle.std.proofs.Common.{◌≡◌, ◌-◌}
use Rattle.input_faults.specs.Records.{at_start, behind_records, left_of}
use Rattle.input_faults.proofs.records.record_of.Given as goal

abbrev pub invariant-loop-turn : goal.invariant-loop-turn
invariant-loop-turn l = behind_records (l.fn.number - l._turn) (left_of l.state l.rest) ≡ behind_records (l.fn.number - 1) (at_start l.fn.text)

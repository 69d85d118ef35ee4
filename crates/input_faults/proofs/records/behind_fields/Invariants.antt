use Rattle.std.proofs.Common.{◌≡◌, ◌-◌}
use Rattle.input_faults.specs.Records.{at_start, behind_fields, left_of}
use Rattle.input_faults.proofs.records.behind_fields.Given as goal

abbrev pub invariant-loop-turn : goal.invariant-loop-turn
invariant-loop-turn l = behind_fields (l.fn.fields - l._turn) (left_of l.state l.rest) ≡ behind_fields l.fn.fields (at_start l.fn.row)

use Rattle.std.proofs.Common.{List, ℕ}
use Rattle.input_faults.specs.RecordLines.{IsBehind}
use Rattle.input_faults.specs.Records.{left_of}
use Rattle.input_faults.proofs.record_lines.go_on.Given as goal

abbrev pub invariant-loop-turn : goal.invariant-loop-turn
invariant-loop-turn l = (text : List ℕ) → IsBehind text l.fn.from (left_of l.fn.state l.fn.rest) → IsBehind text l._turn (left_of l.state l.rest)

use Rattle.std.proofs.Common.{◌≤◌, take}
use Rattle.std.specs.Prelude.{string_bytes}
use Rattle.input_faults.specs.AllFaults.{AreTold}
use Rattle.input_faults.proofs.all.record_lines.Given as goal

abbrev pub invariant-loop-nth : goal.invariant-loop-nth
invariant-loop-nth g l = record {
  so_far : AreTold (λ r. g.L.RecordLines.line_of l.lines r.number r.fault) (take l.nth l.faults) (string_bytes l.text) l.told;
  few : l.told ≤ l.nth;
}

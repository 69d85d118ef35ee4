use Rattle.std.proofs.Common.{◌≡◌, ◌++◌, take}
use Rattle.std.specs.Prelude.{string_bytes}
use Rattle.csv.specs.Records.{fields_of}
use Rattle.input_faults.specs.AllFaults.{notes}
use Rattle.input_faults.proofs.names.push_notes.Given as goal

abbrev pub invariant-loop-field : goal.invariant-loop-field
invariant-loop-field g l = string_bytes l.text ≡ string_bytes l.initial.text ++ notes g.F.FileField.kind l.front (fields_of l.header) (take l.field-index l.fields)

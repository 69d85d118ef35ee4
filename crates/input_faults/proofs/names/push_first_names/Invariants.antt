use Rattle.std.proofs.Common.{◌≡◌, ◌≤◌, ◌++◌, take}
use Rattle.std.specs.Prelude.{string_bytes}
use Rattle.std.specs.List.{flat_map}
use Rattle.csv.specs.Records.{fields_of}
use Rattle.input_faults.specs.AllFaults.{named}
use Rattle.input_faults.proofs.names.push_first_names.Given as goal

abbrev pub invariant-loop-place : goal.invariant-loop-place
invariant-loop-place l = record {
  text_is : string_bytes l.text ≡ string_bytes l.initial.text ++ flat_map named (take l.place (fields_of l.header));
  few : l.place ≤ 100;
}

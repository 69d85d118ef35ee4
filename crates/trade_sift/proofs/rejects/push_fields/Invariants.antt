use Rattle.std.proofs.Common.{◌≡◌, ◌++◌, [], take}
use Rattle.csv.specs.Records.{fields_of, partial_of}
use Rattle.trade_sift.proofs.rejects.push_fields.Given as goal

abbrev pub invariant-loop-place : goal.invariant-loop-place
invariant-loop-place l = record {
  fields_are : fields_of l.row ≡ fields_of l.initial.row ++ take l.place (fields_of l.fields);
  whole : partial_of l.row ≡ [];
}

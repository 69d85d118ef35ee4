use Rattle.std.proofs.Common.{◌≡◌, ◌≤◌, count_by, take}
use Rattle.csv.specs.Records.{fields_of}
use Rattle.trade_text.specs.Columns.{is_column_of}
use Rattle.input_faults.proofs.names.columns_of.Given as goal

abbrev pub invariant-loop-place : goal.invariant-loop-place
invariant-loop-place g l = record {
  counted : l.count ≡ count_by (is_column_of g.F.FileField.kind l.field) (take l.place (fields_of l.header));
  few : l.count ≤ l.place;
}

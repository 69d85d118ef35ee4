use Rattle.csv.specs.Records.{fields_of}
use Rattle.trade_text.specs.Columns.{is_column_of}
use Rattle.trade_text.proofs.Places.{IsFound}
use Rattle.trade_text.proofs.columns.place_of.Given as goal

abbrev pub invariant-loop-place : goal.invariant-loop-place
invariant-loop-place g l = IsFound (is_column_of g.F.FileField.kind l.field) (fields_of l.header) l.place l.found

use Rattle.std.proofs.Common.{◌∙◌, [], sym}
use Rattle.csv.specs.Records.{fields_of}
use Rattle.trade_text.specs.Columns.{is_column_of}
use Rattle.record_faults.proofs.HeaderFacts.{first_place}
use Rattle.record_faults.proofs.header.place_in.Goals as goal

pub returns-then-is_column_at : goal.returns-then-is_column_at
returns-then-is_column_at g c =
    first_place (is_column_of g.F.FileField.kind c.args.field) (fields_of c.args.header.now) c.loop-place.place [] (rw c.len-place-end.ensures at c.loop-place-test.true) c.loop-place.invariant (sym c.is_column_at.ensures ∙ c.if-is_column_at.true)

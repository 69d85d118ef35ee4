use Rattle.std.proofs.Common.{[], sym}
use Rattle.csv.specs.Records.{fields_of}
use Rattle.trade_text.specs.Columns.{is_column_of}
use Rattle.trade_text.proofs.Places.{found_here}
use Rattle.trade_text.proofs.columns.place_of.Goals as goal

pub loop-place-preserved : goal.loop-place-preserved
loop-place-preserved g c =
    found_here (is_column_of g.F.FileField.kind c.args.field) (fields_of c.args.header.now) c.loop-place.place [] c.loop-place.found c.loop-place.invariant (sym c.if-is_some.ensures) (rw c.len-place-end.ensures at c.loop-place-test.true) (sym c.if-not-is_column_at.ensures)

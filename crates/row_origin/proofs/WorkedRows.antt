-- The origins that are worked by hand.
use Rattle.std.proofs.Common.{refl}
use Rattle.row_origin.specs.WorkedRows.{WorkedRows}

pub worked : WorkedRows
worked = record { passed = refl; first = refl; third = refl; second = refl }

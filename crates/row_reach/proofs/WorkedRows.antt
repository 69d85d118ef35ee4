use Rattle.std.proofs.Common.{refl}
use Rattle.row_reach.specs.WorkedRows.{WorkedRows}

pub worked : WorkedRows
worked = record { first = refl; other = refl; closes = refl; last = refl }

-- The causes that are worked by hand.
use Rattle.std.proofs.Common.{refl}
use Rattle.row_cause.specs.WorkedRows.{WorkedRows}

pub worked : WorkedRows
worked = record {
  keep = refl;
  kept_back = refl;
  total = refl;
  last = refl;
  window = refl;
  end = refl;
  crossing = refl;
  uncrossed = refl;
  apart = refl;
  join = refl;
}

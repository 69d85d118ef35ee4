-- The worked rows, computed.
use Rattle.std.proofs.Common.{refl}
use Rattle.run_watch.specs.WorkedRows.{WorkedRows}

pub worked_rows : WorkedRows
worked_rows = record {
  failed = refl;
  named_then = refl;
  not_named = refl;
  leads = refl;
  recalled_then = refl;
  begun = refl;
  moved = refl;
  caught_up = refl;
  one_more = refl;
  lost = refl;
  lost_still = refl;
  seven = refl;
  two = refl;
}

-- The worked rows, computed.
use Rattle.std.proofs.Common.{refl}
use Rattle.pair_machine.specs.Counts.{flow_of}
use Rattle.trio_machine.specs.Machine.{step}
use Rattle.trio_drain.specs.WorkedRows.{WorkedRows}
use Rattle.trio_drain.proofs.Ending.{lost_in}

pub worked_rows : WorkedRows
unfolding step flow_of
worked_rows = record {
  third_drains = (refl, refl);
  all_fail = (refl, lost_in _ _ _ refl, refl);
  one_runs = refl;
  second_lost = refl;
  lost_after_all = refl;
}

-- The worked ends, computed.
use Rattle.std.proofs.Common.{refl}
use Rattle.std.specs.Fmt.{digits}
use Rattle.run_end.specs.WorkedEnds.{WorkedEnds}

pub worked_ends : WorkedEnds
unfolding digits
worked_ends = record {
  lost = refl;
  undecided = refl;
  done_said = refl;
  lost_said = refl;
  open_said = refl;
}

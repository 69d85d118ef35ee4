-- The worked rehearsal, computed.
use Rattle.std.proofs.Common.{refl}
use Rattle.std.specs.Fmt.{digits}
use Rattle.run_rehearsal.specs.WorkedRehearsal.{WorkedRehearsal}

pub worked_rehearsal : WorkedRehearsal
unfolding digits
worked_rehearsal = record {
  text = refl;
  without_back = refl;
  with_back = refl;
  forestalled = refl;
  other_kind = refl;
  caught_up = refl;
  not_caught_up = refl;
  not_heard = refl;
  lost = refl;
}

use Rattle.std.proofs.Common.{◌≡◌, None}
use Rattle.pair_machine.specs.Drain.{pairs_up_to}
use Rattle.trio_machine.specs.Drain.{first_lost}
use Rattle.trio_machine.specs.Machine.{State}
use Rattle.trio_core.specs.CoreView.{flow_in}
use Rattle.trio_core.specs.Stands.{StandsFor}
use Rattle.trio_drain.proofs.serving.first_lost.Given as goal

abbrev pub invariant-loop-before : goal.invariant-loop-before
invariant-loop-before l = (s : State) → StandsFor l.core s → first_lost s (pairs_up_to (flow_in l.core) l.before) ≡ None

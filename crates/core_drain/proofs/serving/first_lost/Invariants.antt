use Rattle.std.proofs.Common.{◌≡◌, None}
use Rattle.pair_machine.specs.Drain.{first_lost, pairs_up_to}
use Rattle.pair_machine.specs.Machine.{State}
use Rattle.flux_core.specs.CoreView.{flow_in}
use Rattle.flux_core.specs.Stands.{StandsFor}
use Rattle.core_drain.proofs.serving.first_lost.Given as goal

abbrev pub invariant-loop-before : goal.invariant-loop-before
invariant-loop-before g l = (s : State) → StandsFor l.core s → first_lost s (pairs_up_to (flow_in l.core) l.before) ≡ None

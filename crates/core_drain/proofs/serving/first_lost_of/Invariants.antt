use Rattle.std.proofs.Common.{◌≡◌, None}
use Rattle.pair_machine.specs.Drain.{first_lost, parts_below}
use Rattle.pair_machine.specs.Machine.{State}
use Rattle.flux_core.specs.Stands.{StandsFor}
use Rattle.core_drain.proofs.serving.first_lost_of.Given as goal

abbrev pub invariant-loop-part : goal.invariant-loop-part
invariant-loop-part g l = (s : State) → StandsFor l.core s → first_lost s (parts_below l.stage l.part) ≡ None

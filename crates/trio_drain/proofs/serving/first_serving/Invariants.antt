use Rattle.std.proofs.Common.{◌≡◌, None}
use Rattle.pair_machine.specs.Consumers.{first_below}
use Rattle.pair_machine.specs.Drain.{partition}
use Rattle.trio_machine.specs.Drain.{is_serving}
use Rattle.trio_machine.specs.Machine.{State}
use Rattle.trio_core.specs.Stands.{StandsFor}
use Rattle.trio_drain.proofs.serving.first_serving.Given as goal

abbrev pub invariant-loop-copy : goal.invariant-loop-copy
invariant-loop-copy l = (s : State) → StandsFor l.core s → first_below (is_serving s (partition l.stage l.part)) l.copy ≡ None

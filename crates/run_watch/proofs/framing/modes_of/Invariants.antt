use Rattle.std.proofs.Common.{◌≡◌}
use Rattle.std.specs.List.{flat_map}
use Rattle.flux_core.specs.CoreView.{flow_in}
use Rattle.flux_core.specs.Stands.{StandsFor}
use Rattle.pair_machine.specs.Drain.{pairs_up_to}
use Rattle.pair_machine.specs.Machine.{State}
use Rattle.run_watch.specs.Columns.{pair_modes}
use Rattle.run_watch.proofs.framing.modes_of.Given as goal

abbrev pub invariant-loop-stage : goal.invariant-loop-stage
invariant-loop-stage l = (s : State) → StandsFor l.core s → l.modes.items ≡ flat_map (pair_modes (flow_in l.core) s) (pairs_up_to (flow_in l.core) l.stage)

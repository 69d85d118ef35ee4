use Rattle.std.proofs.Common.{◌≡◌, ◌++◌}
use Rattle.std.specs.List.{flat_map}
use Rattle.flux_core.specs.CoreView.{flow_in}
use Rattle.flux_core.specs.Stands.{StandsFor}
use Rattle.pair_machine.specs.Drain.{parts_below}
use Rattle.pair_machine.specs.Machine.{State}
use Rattle.run_watch.specs.Columns.{pair_modes}
use Rattle.run_watch.proofs.framing.push_stage.Given as goal

abbrev pub invariant-loop-part : goal.invariant-loop-part
invariant-loop-part l = (s : State) → StandsFor l.core s → l.modes.items ≡ l.initial.modes.items ++ flat_map (pair_modes (flow_in l.core) s) (parts_below l.stage l.part)

use Rattle.std.proofs.Common.{◌≡◌, ◌++◌}
use Rattle.std.specs.Prelude.{string_bytes}
use Rattle.std.specs.List.{flat_map}
use Rattle.flux_core.specs.CoreView.{flow_in}
use Rattle.flux_core.specs.Stands.{StandsFor}
use Rattle.pair_machine.specs.Drain.{parts_below}
use Rattle.pair_machine.specs.Machine.{State}
use Rattle.state_text.specs.StateText.{pair_text}
use Rattle.state_text.proofs.pairs.push_stage.Given as goal

abbrev pub invariant-loop-part : goal.invariant-loop-part
invariant-loop-part l = (s : State) → StandsFor l.core s → string_bytes l.text ≡ string_bytes l.initial.text ++ flat_map (pair_text (flow_in l.core) s) (parts_below l.stage l.part)

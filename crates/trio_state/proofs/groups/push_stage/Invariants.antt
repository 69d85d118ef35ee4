use Rattle.std.proofs.Common.{◌≡◌, ◌++◌}
use Rattle.std.specs.Prelude.{string_bytes}
use Rattle.std.specs.List.{flat_map}
use Rattle.pair_machine.specs.Drain.{parts_below}
use Rattle.trio_machine.specs.Machine.{State}
use Rattle.trio_core.specs.Stands.{StandsFor}
use Rattle.trio_state.specs.GroupsText.{group_text}
use Rattle.trio_state.proofs.groups.push_stage.Given as goal

abbrev pub invariant-loop-part : goal.invariant-loop-part
invariant-loop-part l = (s : State) → StandsFor l.core s → string_bytes l.text ≡ string_bytes l.initial.text ++ flat_map (group_text s) (parts_below l.stage l.part)

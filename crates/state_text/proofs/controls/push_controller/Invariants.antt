use Rattle.std.proofs.Common.{◌≡◌, ◌++◌}
use Rattle.std.specs.Prelude.{string_bytes}
use Rattle.pair_control.specs.ControllerView.{numbers_of}
use Rattle.state_text.specs.StateText.{lines_below, reports_line}
use Rattle.state_text.proofs.controls.push_controller.Given as goal

abbrev pub invariant-loop-edge : goal.invariant-loop-edge
invariant-loop-edge l = string_bytes l.text ≡ string_bytes l.initial.text ++ lines_below l.edge (reports_line l.name (numbers_of l.control))

use Rattle.std.proofs.Common.{◌≡◌}
use Rattle.trio_nodes.specs.ControllerView.{least_report}
use Rattle.trio_nodes.proofs.controller.acknowledgement.least_report.Given as goal

abbrev pub invariant-loop-copy : goal.invariant-loop-copy
invariant-loop-copy l = l.least ≡ least_report l.fn.watched l.edge l.copy

use Rattle.std.proofs.Common.{◌≡◌, None}
use Rattle.pair_machine.specs.Consumers.{first_below}
use Rattle.trio_nodes.specs.ControllerView.{watched_in}
use Rattle.trio_nodes.proofs.controller.hearing.lowest_up.Given as goal

abbrev pub invariant-loop-copy : goal.invariant-loop-copy
invariant-loop-copy l = first_below (λ c. (watched_in l.fn.watched c).up) l.copy ≡ None

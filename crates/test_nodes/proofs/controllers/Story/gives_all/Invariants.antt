use Rattle.std.proofs.Common.{◌≡◌, length}
use Rattle.test_nodes.proofs.controllers.Story.gives_all.Given as goal

abbrev pub invariant-loop-producer : goal.invariant-loop-producer
invariant-loop-producer l = length l.self.control.acked ≡ length l.initial.self.control.acked

use Rattle.std.proofs.Common.{◌≡◌, length}
use Rattle.test_nodes.proofs.controllers.Story.first_wrong.Given as goal

abbrev pub invariant-loop-place : goal.invariant-loop-place
invariant-loop-place l = length l.self.control.acked ≡ length l.initial.self.control.acked

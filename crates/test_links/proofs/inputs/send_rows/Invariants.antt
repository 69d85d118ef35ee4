use Rattle.std.proofs.Common.{◌≡◌}
use Rattle.input_ring.specs.Ends.{sends_to}
use Rattle.test_links.proofs.inputs.send_rows.Given as goal

abbrev pub invariant-loop-number : goal.invariant-loop-number
invariant-loop-number g l = sends_to l.sender ≡ sends_to l.fn.sender

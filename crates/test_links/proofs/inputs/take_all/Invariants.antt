use Rattle.std.proofs.Common.{◌≡◌}
use Rattle.input_ring.specs.Ends.{gives_from}
use Rattle.test_links.proofs.inputs.take_all.Given as goal

abbrev pub invariant-loop : goal.invariant-loop
invariant-loop g l = gives_from l.source ≡ gives_from l.fn.source

use Rattle.std.proofs.Common.{◌≡◌}
use Rattle.input_ring.specs.Ends.{inputs_sent, sends_to}
use Rattle.input_ring.proofs.sending.InputSender.send.Given as goal

abbrev pub invariant-loop : goal.invariant-loop
invariant-loop g l = (inputs_sent l.self ≡ inputs_sent l.fn.self) × (sends_to l.self ≡ sends_to l.fn.self)

use Rattle.std.proofs.Common.{◌≡◌}
use Rattle.flux_producer.specs.Due.{due_to, soonest_below}
use Rattle.flux_producer.proofs.Dues.{found}
use Rattle.flux_producer.proofs.producer.Producer.first_due.Given as goal

abbrev pub invariant-loop-to : goal.invariant-loop-to
invariant-loop-to l = found l.first ≡ soonest_below (due_to l.self) l.to

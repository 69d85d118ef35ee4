use Rattle.std.proofs.Common.{◌≡◌}
use Rattle.std.specs.Prelude.{None}
use Rattle.flux_consumer.specs.ConsumerView.{AllTold, report_below}
use Rattle.flux_consumer.proofs.consumer.Consumer.report_due.Given as goal

abbrev pub invariant-loop-edge : goal.invariant-loop-edge
invariant-loop-edge l = record { none : report_below l.self l.edge ≡ None; told : AllTold l.self l.edge }

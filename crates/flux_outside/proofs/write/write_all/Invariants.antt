use Rattle.std.proofs.Common.{◌≡◌, ◌≤◌, ◌++◌, ℕ, List, length}
use Rattle.flux_outside.proofs.Sinks.{OffersTo}
use Rattle.flux_outside.specs.Outside.{Takes}
use Rattle.flux_outside.proofs.write.write_all.Given as goal

abbrev pub invariant-loop-rest : goal.invariant-loop-rest
invariant-loop-rest g l = record {
  written : (front : List ℕ) × (l.fn.bytes ≡ front ++ l.rest) × Takes (g.S.Sink.told l.fn.sink).taken (g.S.Sink.told l.sink).taken front;
  offers : OffersTo (g.S.Sink.told l.fn.sink).offered (g.S.Sink.told l.sink).offered l.fn.bytes l.rest;
  later : (g.S.Sink.told l.fn.sink).faults ≤ (g.S.Sink.told l.sink).faults;
}

abbrev pub decreases-loop-rest : goal.decreases-loop-rest
decreases-loop-rest g l = length l.rest

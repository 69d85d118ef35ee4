use Rattle.std.proofs.Common.{◌≡◌, ◌≤◌, ◌++◌, ℕ, List, length}
use Rattle.flux_outside.proofs.Sinks.{OffersTo}
use Rattle.flux_outside.specs.Outside.{Takes}
use Rattle.row_wire.proofs.Offers.{IsBegun}
use Rattle.row_wire.proofs.wire.put_all.Given as goal

abbrev pub invariant-loop-rest : goal.invariant-loop-rest
invariant-loop-rest g l = record {
  written : (front : List ℕ) × (l.fn.bytes ≡ front ++ l.rest) × Takes (g.W.Wire.told l.fn.wire).taken (g.W.Wire.told l.wire).taken front;
  offers : OffersTo (g.W.Wire.told l.fn.wire).offered (g.W.Wire.told l.wire).offered l.fn.bytes l.rest;
  begun : IsBegun (g.W.Wire.told l.fn.wire).offered (g.W.Wire.told l.wire).offered l.fn.bytes l.rest;
  later : (g.W.Wire.told l.fn.wire).faults ≤ (g.W.Wire.told l.wire).faults;
}

abbrev pub decreases-loop-rest : goal.decreases-loop-rest
decreases-loop-rest g l = length l.rest

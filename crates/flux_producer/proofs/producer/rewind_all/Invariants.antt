use Rattle.std.proofs.Common.{◌≡◌, ◌++◌, drop, map, take}
use Rattle.flux_producer.specs.OutEdge.{rewound}
use Rattle.flux_producer.proofs.producer.rewind_all.Given as goal

abbrev pub invariant-loop-edge : goal.invariant-loop-edge
invariant-loop-edge l = l.edge-items ≡ map rewound (take l.edge-index l.initial.edge-items) ++ drop l.edge-index l.initial.edge-items

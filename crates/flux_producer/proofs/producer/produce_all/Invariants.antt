use Rattle.std.proofs.Common.{◌≡◌, ◌++◌, drop, map, take}
use Rattle.flux_producer.specs.OutEdge.{with_item}
use Rattle.flux_producer.proofs.producer.produce_all.Given as goal

abbrev pub invariant-loop-edge : goal.invariant-loop-edge
invariant-loop-edge l = l.edge-items ≡ map (λ e. with_item e l.fn.item) (take l.edge-index l.initial.edge-items) ++ drop l.edge-index l.initial.edge-items

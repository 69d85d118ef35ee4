use Rattle.std.proofs.Common.{◌≡◌, ◌++◌, map}
use Rattle.std.specs.Vec.Iter.{into_iter_items}
use Rattle.flux_core.specs.Opening.{new_station}
use Rattle.flux_core.proofs.opening.stations_of.Given as goal

abbrev pub invariant-loop-node : goal.invariant-loop-node
invariant-loop-node l =
    goal.iterator-loop-node.can_next l.node-iterator ×
    goal.iterator-loop-node.is_finite l.node-iterator ×
    record {
      left : l.yielded ++ into_iter_items l.node-iterator ≡ l.fn.nodes.items;
      done : l.stations.items ≡ map new_station l.yielded;
    }

use Rattle.std.proofs.Common.{◌≡◌, ◌++◌}
use Rattle.tuple_edge.specs.Entries.{each_below}
use Rattle.move_list.specs.MoveList.{kept_entries}
use Rattle.move_list.specs.Pieces.{FilledBelow}
use Rattle.move_list.proofs.list.add_kept.Given as goal

abbrev pub invariant-loop-edge : goal.invariant-loop-edge
invariant-loop-edge l = record {
  entries : l.out.items ≡ l.fn.out.items ++ each_below l.edge (kept_entries l.producer);
  filled : FilledBelow l.producer l.edge;
}

use Rattle.std.proofs.Common.{◌≡◌, ◌++◌}
use Rattle.move_list.specs.MoveList.{low_entry}
use Rattle.tuple_edge.specs.Entries.{each_below}
use Rattle.move_list.proofs.list.add_lows.Given as goal

abbrev pub invariant-loop-edge : goal.invariant-loop-edge
invariant-loop-edge l = l.out.items ≡ l.fn.out.items ++ each_below l.edge (low_entry l.producer)

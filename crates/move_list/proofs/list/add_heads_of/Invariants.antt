use Rattle.std.proofs.Common.{◌≡◌, ◌++◌, take}
use Rattle.tuple_edge.specs.declared.packet.Entry.TheVariants as entry
use Rattle.merge_order.specs.MergeView.{waiting_of}
use Rattle.move_list.specs.MoveList.{used_of}
use Rattle.tuple_edge.specs.Entries.{numbered}
use Rattle.move_list.proofs.list.add_heads_of.Given as goal

abbrev pub invariant-loop-nth : goal.invariant-loop-nth
invariant-loop-nth l = l.out.items ≡ l.fn.out.items ++ numbered (entry.Head l.edge) (used_of l.merge l.edge) (take l.nth (waiting_of l.merge l.edge))

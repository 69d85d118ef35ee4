use Rattle.std.proofs.Common.{◌≡◌, ◌++◌, take}
use Rattle.tuple_edge.specs.declared.packet.Entry.TheVariants as entry
use Rattle.flux_producer.specs.ProducerView.{buffer_at}
use Rattle.tuple_edge.specs.Entries.{numbered}
use Rattle.move_list.proofs.list.add_kept_of.Given as goal

abbrev pub invariant-loop-nth : goal.invariant-loop-nth
invariant-loop-nth l = l.out.items ≡ l.fn.out.items ++ numbered (entry.Kept l.edge) (buffer_at l.producer l.edge).low (take l.nth (buffer_at l.producer l.edge).items)

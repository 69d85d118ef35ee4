use Rattle.std.proofs.Common.{◌≡◌, ◌<◌, ◌≤◌, ◌-◌, ◌*◌, ◌++◌, ℕ, max, length, slice_index}
use Rattle.trio_machine.specs.Controllers.{acks_from, least}
use Rattle.trio_nodes.specs.ControllerView.{IsControl, numbers_of, partition_of}
use Rattle.trio_nodes.specs.ControllerPackets.{SendsAtMost, packets_of}
use Rattle.trio_nodes.proofs.controller.TrioControl.acknowledge.Given as goal

abbrev pub invariant-loop-edge : goal.invariant-loop-edge
invariant-loop-edge l = record {
  stage : l.self-inside.stage ≡ l.fn.self.stage;
  part : l.self-inside.part ≡ l.fn.self.part;
  watched : l.self-inside.watched.items ≡ l.fn.self.watched;
  term : l.self-inside.term ≡ l.fn.self.term;
  leader : l.self-inside.leader ≡ l.fn.self.leader;
  whole : l.edge-end ≡ length l.fn.self.acked;
  control : IsControl l.self-inside.stage l.self-inside.watched.items l.self-inside.acked.items l.self-inside.leader;
  edges : length l.self-inside.acked.items ≡ length l.fn.self.acked;
  done : (q : ℕ) → q < l.edge → slice_index l.self-inside.acked.items q ≡ max (slice_index l.fn.self.acked q) (least (numbers_of l.fn.self) q);
  left : (q : ℕ) → l.edge ≤ q → slice_index l.self-inside.acked.items q ≡ slice_index l.fn.self.acked q;
  packets : l.out.packets ++ packets_of (acks_from (length l.fn.self.acked - l.edge) l.edge (partition_of l.fn.self) (numbers_of l.fn.self)) ≡ l.fn.out.packets ++ packets_of (acks_from (length l.fn.self.acked) 0 (partition_of l.fn.self) (numbers_of l.fn.self));
  sends : SendsAtMost (3 * l.edge) l.fn.out l.out;
}

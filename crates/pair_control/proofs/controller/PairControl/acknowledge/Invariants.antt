use Rattle.std.proofs.Common.{◌≡◌, ◌<◌, ◌≤◌, ◌-◌, ◌*◌, ◌++◌, ℕ, max, length, slice_index}
use Rattle.pair_machine.specs.Controllers.{acks_from, least}
use Rattle.pair_control.specs.ControllerView.{IsLed, numbers_of, partition_of}
use Rattle.pair_control.specs.Packets.{SendsAtMost, packets_of}
use Rattle.pair_control.proofs.controller.PairControl.acknowledge.Given as goal

abbrev pub invariant-loop-edge : goal.invariant-loop-edge
invariant-loop-edge l = record {
  stage : l.self-inside.stage ≡ l.fn.self.stage;
  part : l.self-inside.part ≡ l.fn.self.part;
  a : l.self-inside.a ≡ l.fn.self.a;
  b : l.self-inside.b ≡ l.fn.self.b;
  term : l.self-inside.term ≡ l.fn.self.term;
  leader : l.self-inside.leader ≡ l.fn.self.leader;
  stage_counts : 1 ≤ l.self-inside.stage;
  few_edges : length l.fn.self.acked ≤ 8;
  a_reports : length l.self-inside.a.reports ≡ length l.fn.self.acked;
  b_reports : length l.self-inside.b.reports ≡ length l.fn.self.acked;
  led : IsLed l.self-inside.leader l.self-inside.a.status l.self-inside.b.status;
  edges : length l.self-inside.acked.items ≡ length l.fn.self.acked;
  within : l.edge ≤ length l.fn.self.acked;
  ends : l.edge-end ≤ length l.fn.self.acked;
  behind : (q : ℕ) → l.edge-end ≤ q → least (numbers_of l.fn.self) q ≤ slice_index l.fn.self.acked q;
  done : (q : ℕ) → q < l.edge → slice_index l.self-inside.acked.items q ≡ max (slice_index l.fn.self.acked q) (least (numbers_of l.fn.self) q);
  left : (q : ℕ) → l.edge ≤ q → slice_index l.self-inside.acked.items q ≡ slice_index l.fn.self.acked q;
  packets : l.out.packets ++ packets_of (acks_from (length l.fn.self.acked - l.edge) l.edge (partition_of l.fn.self) (numbers_of l.fn.self)) ≡ l.fn.out.packets ++ packets_of (acks_from (length l.fn.self.acked) 0 (partition_of l.fn.self) (numbers_of l.fn.self));
  sends : SendsAtMost (2 * l.edge) l.fn.out l.out;
}

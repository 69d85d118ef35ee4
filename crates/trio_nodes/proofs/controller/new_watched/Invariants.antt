use Rattle.std.proofs.Common.{◌≡◌, ◌≤◌}
use Rattle.std.specs.Prelude.{replicate, vec_capacity, vec_len}
use Rattle.trio_machine.specs.Numbers.{group_size}
use Rattle.trio_nodes.specs.ControllerView.{unheard}
use Rattle.trio_nodes.proofs.controller.new_watched.Given as goal

abbrev pub invariant-loop-copy : goal.invariant-loop-copy
invariant-loop-copy l = record {
  items : l.watched.items ≡ replicate l._copy (unheard l.edges);
  len : vec_len l.watched ≡ l._copy;
  room : group_size ≤ vec_capacity l.watched;
}

use Rattle.std.proofs.Common.{◌≡◌, ◌≤◌}
use Rattle.run_node.proofs.out_end.OutEnd.flush.Given as goal

abbrev pub invariant-loop : goal.invariant-loop
invariant-loop g l = record {
  link : l.self.link ≡ l.initial.self.link;
  spare : l.initial.self.spare ≤ l.self.spare;
}

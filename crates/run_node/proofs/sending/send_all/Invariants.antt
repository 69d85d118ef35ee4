use Rattle.std.proofs.Common.{◌≡◌, ◌-◌, ◌+◌, ℕ, drop, length}
use Rattle.run_node.specs.Ends.{HaveRoom, links_of}
use Rattle.run_node.specs.FirstLinks.{AreFirst, receivers}
use Rattle.run_node.specs.Sends.{with_all_sent}
use Rattle.run_node.proofs.sending.send_all.Given as goal

abbrev pub invariant-loop-nth : goal.invariant-loop-nth
invariant-loop-nth g l = record {
  firsts : AreFirst l.firsts (receivers (links_of l.outs));
  room : (k : ℕ) → HaveRoom (k + length l.outbox.packets) l.initial.outs → HaveRoom (k + (length l.outbox.packets - l.nth)) l.outs;
  sent : with_all_sent l.clock (drop l.nth l.outbox.packets) (links_of l.outs) ≡ with_all_sent l.clock l.outbox.packets (links_of l.initial.outs);
}

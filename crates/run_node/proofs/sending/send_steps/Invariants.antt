use Rattle.std.proofs.Common.{◌≡◌, ◌≤◌, ◌-◌, ◌+◌, ◌*◌, ℕ, drop, length}
use Rattle.run_node.specs.Ends.{HaveRoom, links_of}
use Rattle.run_node.specs.FirstLinks.{AreFirst, receivers}
use Rattle.run_node.specs.Sends.{with_steps_sent}
use Rattle.node_tasks.specs.Steps.{pieces}
use Rattle.run_node.proofs.SentPackets.{with_rest_sent}
use Rattle.run_node.proofs.sending.send_steps.Given as goal

abbrev pub invariant-loop-nth : goal.invariant-loop-nth
invariant-loop-nth g l = record {
  clocks : l.at ≤ l.clock + l.steps.count;
  whole : length l.outbox.packets ≡ l.nth + (l.left + (l.clock + l.steps.count - l.at) * l.steps.each);
  firsts : AreFirst l.firsts (receivers (links_of l.outs));
  room : (k : ℕ) → HaveRoom (k + length l.outbox.packets) l.initial.outs → HaveRoom (k + (length l.outbox.packets - l.nth)) l.outs;
  sent : with_rest_sent l.at l.left (l.clock + l.steps.count - l.at) l.steps.each (drop l.nth l.outbox.packets) (links_of l.outs)
      ≡ with_steps_sent l.clock (pieces l.steps.count l.steps.each l.outbox.packets) (links_of l.initial.outs);
}

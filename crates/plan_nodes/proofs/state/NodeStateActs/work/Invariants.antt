use Rattle.std.proofs.Common.{◌≤◌}
use Rattle.plan_nodes.proofs.Stepping.{HasRun}
use Rattle.plan_nodes.proofs.state.NodeStateActs.work.Given as goal

abbrev pub invariant-loop-count : goal.invariant-loop-count
invariant-loop-count l = record {
  run : HasRun l.fn.self l.self l.count l.each l.out.packets;
  small : l.each ≤ 2;
}

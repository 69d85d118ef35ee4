use Rattle.std.proofs.Common.{◌≡◌, take}
use Rattle.std.specs.Prelude.{Some, slice_get}
use Rattle.pair_machine.specs.Lists.{Each}
use Rattle.run_node.specs.NodeView.{NodeView}
use Rattle.linked_run.specs.Runs.{IsSettled}
use Rattle.linked_run.proofs.settling.settle_node.Given as goal

abbrev pub invariant-loop-inlet : goal.invariant-loop-inlet
invariant-loop-inlet g l = record {
  same : l.nodes ≡ l.initial.nodes;
  settled : (v : NodeView _ _) → slice_get l.initial.nodes l.to ≡ Some v → Each (IsSettled g.A.Acts.id l.initial.nodes (g.A.Acts.id v.state)) (take l.inlet v.ins);
}

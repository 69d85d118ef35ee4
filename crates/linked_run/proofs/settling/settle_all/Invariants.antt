use Rattle.std.proofs.Common.{◌≡◌, take}
use Rattle.pair_machine.specs.Lists.{Each}
use Rattle.linked_run.specs.Runs.{IsSettled}
use Rattle.linked_run.proofs.settling.settle_all.Given as goal

abbrev pub invariant-loop-to : goal.invariant-loop-to
invariant-loop-to g l = record {
  same : l.nodes ≡ l.initial.nodes;
  settled : Each (λ v. Each (IsSettled g.A.Acts.id l.initial.nodes (g.A.Acts.id v.state)) v.ins) (take l.to l.initial.nodes);
}

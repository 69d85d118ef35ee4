use Rattle.std.proofs.Common.{◌≡◌, false, take}
use Rattle.pair_machine.specs.Lists.{Each}
use Rattle.pair_machine.specs.Numbers.{is_node}
use Rattle.linked_run.proofs.settling.place_of.Given as goal

abbrev pub invariant-loop-place : goal.invariant-loop-place
invariant-loop-place g l = Each (λ v. is_node (g.A.Acts.id v.state) l.id ≡ false) (take l.place l.nodes)

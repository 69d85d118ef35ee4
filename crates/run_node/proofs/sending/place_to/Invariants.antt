use Rattle.std.proofs.Common.{◌≡◌, false, take}
use Rattle.pair_machine.specs.Lists.{Each}
use Rattle.pair_machine.specs.Numbers.{is_node}
use Rattle.run_node.proofs.sending.place_to.Given as goal

abbrev pub invariant-loop-place : goal.invariant-loop-place
invariant-loop-place g l = Each (λ e. is_node e.link.to l.to ≡ false) (take l.place l.outs)

use Rattle.std.proofs.Common.{take}
use Rattle.state_text.specs.Counted.{AreCounted}
use Rattle.state_text.proofs.links.counts_of.Given as goal

abbrev pub invariant-loop-nth : goal.invariant-loop-nth
invariant-loop-nth l = AreCounted l.counts (take l.nth l.log.packets)

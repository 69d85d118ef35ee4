use Rattle.run_node.specs.Ends.{links_of}
use Rattle.run_node.specs.FirstLinks.{AreFirst, receivers}
use Rattle.run_node.proofs.sending.count_firsts.Given as goal

abbrev pub invariant-loop-place : goal.invariant-loop-place
invariant-loop-place g l = AreFirst l.place (receivers (links_of l.outs))

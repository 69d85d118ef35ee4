use Rattle.std.proofs.Common.{◌≡◌}
use Rattle.run_node.specs.NodeView.{name_of}
use Rattle.run_node.proofs.node.Node.make_some.Given as goal

abbrev pub invariant-loop-left : goal.invariant-loop-left
invariant-loop-left g l = name_of g.A.Acts.id l.self ≡ name_of g.A.Acts.id l.initial.self

abbrev pub decreases-loop-left : goal.decreases-loop-left
decreases-loop-left g l = l.left

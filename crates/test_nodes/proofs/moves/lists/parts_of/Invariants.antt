use Rattle.std.specs.Option.{IfSome}
use Rattle.state_mover.specs.MoverView.{IsMidway}
use Rattle.test_nodes.proofs.moves.lists.parts_of.Given as goal

abbrev pub invariant-loop-part : goal.invariant-loop-part
invariant-loop-part l = record { midway : IfSome l.fn.state.old (IsMidway l.mover) }

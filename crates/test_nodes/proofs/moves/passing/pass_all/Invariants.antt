use Rattle.std.proofs.Common.{◌≡◌}
use Rattle.std.specs.Option.{IfSome}
use Rattle.state_mover.specs.MoverView.{IsMidway}
use Rattle.test_nodes.proofs.moves.passing.pass_all.Given as goal

abbrev pub invariant-loop-part : goal.invariant-loop-part
invariant-loop-part l = record {
  old : l.state.old ≡ l.fn.state.old;
  midway : IfSome l.fn.state.old (IsMidway l.mover);
  held : l.newcomer.held ≡ l.fn.newcomer.held;
}

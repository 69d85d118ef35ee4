use Rattle.std.proofs.Common.{◌≡◌}
use Rattle.test_nodes.proofs.moves.rows.step_on.Given as goal

abbrev pub invariant-loop-nth : goal.invariant-loop-nth
invariant-loop-nth l = record { old : l.state.old ≡ l.fn.state.old }

use Rattle.std.proofs.Common.{◌≡◌, None}
use Rattle.test_nodes.proofs.moves.put_back.put_all.Given as goal

abbrev pub invariant-loop-entry : goal.invariant-loop-entry
invariant-loop-entry l = record { old : l.state.old ≡ None }

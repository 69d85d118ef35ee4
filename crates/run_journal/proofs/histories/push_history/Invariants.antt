use Rattle.std.proofs.Common.{◌≡◌, ◌++◌, map, take}
use Rattle.run_journal.proofs.histories.push_history.Given as goal

abbrev pub invariant-loop-stamped : goal.invariant-loop-stamped
invariant-loop-stamped l =
    l.entries.items ≡ l.fn.entries.items ++ map (λ s. record { node = l.history.node; stamped = s }) (take l.stamped-index l.history.entries.items)

use Rattle.std.proofs.Common.{◌≡◌, map, take}
use Rattle.run_journal.proofs.histories.merge.Given as goal

abbrev pub invariant-loop-entry : goal.invariant-loop-entry
invariant-loop-entry l = l.events.items ≡ map (λ e. e.stamped.event) (take l.entry-index l.entry-items)

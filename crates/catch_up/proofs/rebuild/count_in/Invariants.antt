use Rattle.std.proofs.Common.{◌≡◌, drop, fold}
use Rattle.catch_up.specs.Rebuild.{count_step}
use Rattle.catch_up.proofs.rebuild.count_in.Given as goal

abbrev pub invariant-loop-entry : goal.invariant-loop-entry
invariant-loop-entry l = fold count_step l.count (drop l.entry-index l.entries) ≡ fold count_step 0 l.entries

use Rattle.std.proofs.Common.{◌≡◌, ◌++◌, length}
use Rattle.event_log.proofs.log.Log.entries.Given as goal

abbrev pub invariant-loop-stamped : goal.invariant-loop-stamped
invariant-loop-stamped l = l.all.items ++ l.reader ≡ l.fn.self.entries

abbrev pub decreases-loop-stamped : goal.decreases-loop-stamped
decreases-loop-stamped l = length l.reader

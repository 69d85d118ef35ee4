use Rattle.std.proofs.Common.{◌≡◌, None, drop}
use Rattle.journal_writer.specs.Merged.{least_from}
use Rattle.journal_writer.proofs.write.least_clock.Given as goal

abbrev pub invariant-loop-source : goal.invariant-loop-source
invariant-loop-source l = least_from l.least (drop l.source-index l.sources) ≡ least_from None l.sources

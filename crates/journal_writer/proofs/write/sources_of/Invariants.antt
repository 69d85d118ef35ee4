use Rattle.std.proofs.Common.{◌≡◌, take}
use Rattle.event_log.specs.Views.{named_logs}
use Rattle.journal_writer.proofs.write.sources_of.Given as goal

abbrev pub invariant-loop-log : goal.invariant-loop-log
invariant-loop-log l = l.sources.items ≡ named_logs (take l.log-index l.logs)

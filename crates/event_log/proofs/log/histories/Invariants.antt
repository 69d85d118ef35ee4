use Rattle.std.proofs.Common.{◌≡◌, take}
use Rattle.event_log.specs.Views.{named_histories, named_logs}
use Rattle.event_log.proofs.log.histories.Given as goal

abbrev pub invariant-loop-log : goal.invariant-loop-log
invariant-loop-log l = named_histories l.told.items ≡ named_logs (take l.log-index l.logs)

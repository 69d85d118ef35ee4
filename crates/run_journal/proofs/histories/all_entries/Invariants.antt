use Rattle.std.proofs.Common.{◌≡◌, take}
use Rattle.std.specs.List.{flat_map}
use Rattle.run_journal.specs.Entries.{entries_of}
use Rattle.run_journal.proofs.histories.all_entries.Given as goal

abbrev pub invariant-loop-history : goal.invariant-loop-history
invariant-loop-history l = l.entries.items ≡ flat_map entries_of (take l.history-index l.histories)

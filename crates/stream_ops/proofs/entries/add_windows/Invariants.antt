use Rattle.std.proofs.Common.{◌≡◌, ◌++◌}
use Rattle.stream_ops.specs.Entries.{all_told, told_window}
use Rattle.stream_ops.proofs.entries.add_windows.Given as goal

abbrev pub invariant-loop-key : goal.invariant-loop-key
invariant-loop-key l = l.out.items ++ all_told told_window l.key-iterator ≡ l.fn.out.items ++ all_told told_window l.windows.kept

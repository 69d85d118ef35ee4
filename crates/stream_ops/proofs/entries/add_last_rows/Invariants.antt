use Rattle.std.proofs.Common.{◌≡◌, ◌++◌}
use Rattle.stream_ops.specs.Entries.{all_told, told_last}
use Rattle.stream_ops.proofs.entries.add_last_rows.Given as goal

abbrev pub invariant-loop-key : goal.invariant-loop-key
invariant-loop-key l = l.out.items ++ all_told told_last l.key-iterator ≡ l.fn.out.items ++ all_told told_last l.last_rows.kept

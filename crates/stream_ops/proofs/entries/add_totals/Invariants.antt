use Rattle.std.proofs.Common.{◌≡◌, ◌++◌}
use Rattle.stream_ops.specs.Entries.{all_told, told_total}
use Rattle.stream_ops.proofs.entries.add_totals.Given as goal

abbrev pub invariant-loop-key : goal.invariant-loop-key
invariant-loop-key l = l.out.items ++ all_told told_total l.key-iterator ≡ l.fn.out.items ++ all_told told_total l.totals.kept

use Rattle.std.proofs.Common.{◌≡◌, fold}
use Rattle.stream_ops.specs.Steps.{no_sums}
use Rattle.stream_ops.specs.Sums.{sums_with}
use Rattle.stream_ops.proofs.kept.sum_up.Given as goal

abbrev pub invariant-loop-more : goal.invariant-loop-more
invariant-loop-more l = fold sums_with l.sums l.more-iterator ≡ fold sums_with no_sums l.kept.items

-- Which rows count into an answer.
use Rattle.std.specs.Prelude.{Bool, true, false}
use Rattle.op_spec.specs.declared.spec.OpSpec.{OpSpec}
use Rattle.op_spec.specs.declared.spec.OpSpec.TheVariants as op

-- whether the row that makes an operator speak counts into its answer: it only closes a window
abbrev pub speaker_counts : OpSpec → Bool
speaker_counts (op.Keep column compare limit) = true
speaker_counts (op.Total by) = true
speaker_counts (op.Last by n) = true
speaker_counts (op.Window by width) = false
speaker_counts (op.Crossing by limit) = true
speaker_counts (op.Join by width n column compare limit) = true

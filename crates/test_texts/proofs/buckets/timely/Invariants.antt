use Rattle.std.proofs.Common.{take}
use Rattle.std.specs.Prelude.{All}
use Rattle.op_spec.specs.Times.{IsTime}
use Rattle.test_texts.proofs.buckets.timely.Given as goal

abbrev pub invariant-loop-row : goal.invariant-loop-row
invariant-loop-row g l = All (λ r. IsTime r.time) (take l.row-index l.rows)

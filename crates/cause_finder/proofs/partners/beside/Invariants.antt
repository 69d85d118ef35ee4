use Rattle.std.proofs.Common.{◌≡◌, take}
use Rattle.std.specs.Prelude.{filter}
use Rattle.std.specs.Ordering.{int_eq}
use Rattle.stream_ops.specs.Windows.{window_of}
use Rattle.cause_finder.proofs.partners.beside.Given as goal

abbrev pub invariant-loop-x : goal.invariant-loop-x
invariant-loop-x l = l.rows.items ≡ filter (λ x. int_eq (window_of l.width x.row) l.window) (take l.x-index l.placed)

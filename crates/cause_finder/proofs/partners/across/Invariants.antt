use Rattle.std.proofs.Common.{◌≡◌, take}
use Rattle.std.specs.Prelude.{cond, not, filter}
use Rattle.stream_ops.specs.Joins.{is_left}
use Rattle.cause_finder.proofs.partners.across.Given as goal

abbrev pub invariant-loop-x : goal.invariant-loop-x
invariant-loop-x l =
    l.rows.items
    ≡ filter (λ x. cond (is_left l.column l.compare l.limit l.r.row) (not (is_left l.column l.compare l.limit x.row)) (is_left l.column l.compare l.limit x.row)) (take l.x-index l.placed)

use Rattle.std.proofs.Common.{◌≡◌, take}
use Rattle.std.specs.Prelude.{count_by}
use Rattle.run_rehearsal.specs.Fates.{is_obeyed}
use Rattle.run_rehearsal.proofs.fates.count_obeyed.Given as goal

abbrev pub invariant-loop-order : goal.invariant-loop-order
invariant-loop-order l = l.count ≡ count_by (is_obeyed l.told) (take l.order-index l.orders)

use Rattle.std.proofs.Common.{◌≡◌, None, slice_get}
use Rattle.pair_machine.specs.Consumers.{first_below}
use Rattle.trio_core.specs.CoreView.{is_at}
use Rattle.trio_core.proofs.station.place_of.Given as goal

abbrev pub invariant-loop-place : goal.invariant-loop-place
invariant-loop-place l = first_below (λ k. is_at l.fn.name (slice_get l.fn.stations k)) l.place ≡ None

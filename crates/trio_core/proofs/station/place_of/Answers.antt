use Rattle.std.proofs.Common.{◌≡◌, ◌∙◌, Some, ap, length, slice_get, sym}
use Rattle.ingress_egress.proofs.IngressSteps.{found_at}
use Rattle.trio_core.specs.CoreView.{is_at}
use Rattle.trio_core.proofs.Lists.{get_at}
use Rattle.trio_core.proofs.Placing.{none_next}
use Rattle.trio_core.proofs.station.place_of.Goals as goal

pub returns-then-is_named : goal.returns-then-is_named
returns-then-is_named c =
    let xs = c.args.stations.now in
    let i = c.loop-place.place in
    let here : slice_get xs i ≡ Some c.index-stations-place.result = get_at xs i c.index-stations-place.result c.loop-place-test.true c.index-stations-place.is in
    found_at (length xs) i (λ k. is_at c.args.name (slice_get xs k)) c.loop-place.invariant c.loop-place-test.true (ap (is_at c.args.name) here ∙ sym c.is_named.ensures ∙ c.if-is_named.true)

pub loop-place-preserved : goal.loop-place-preserved
loop-place-preserved c =
    let xs = c.args.stations.now in
    let i = c.loop-place.place in
    let here : slice_get xs i ≡ Some c.index-stations-place.result = get_at xs i c.index-stations-place.result c.loop-place-test.true c.index-stations-place.is in
    none_next (λ k. is_at c.args.name (slice_get xs k)) i c.loop-place.invariant (ap (is_at c.args.name) here ∙ sym c.is_named.ensures ∙ c.if-is_named.false)

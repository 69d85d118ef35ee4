use Rattle.std.proofs.Common.{◌<◌, ap, sym, ◌∙◌, arith, length}
use Rattle.std.specs.Prelude.{slice_set}
use Rattle.std.proofs.lemmas.List.Edits.{map_over_more}
use Rattle.flux_producer.specs.OutEdge.{OutEdgeView, with_item}
use Rattle.flux_producer.proofs.producer.produce_all.Goals as goal

pub loop-edge-preserved : goal.loop-edge-preserved
loop-edge-preserved c =
    let inside : c.loop-edge.edge-index < length c.deref_mut-edge-items.result.now = omega arith in
    ap (slice_set c.loop-edge.edge-items c.loop-edge.edge-index) (c.produce-number.ensures.produced ∙ ap (λ (e : OutEdgeView). with_item e c.args.item) (sym c.edge-item.is))
    ∙ map_over_more (λ (e : OutEdgeView). with_item e c.args.item) c.deref_mut-edge-items.result.now c.loop-edge.edge-items c.loop-edge.edge-index c.edge-item.result inside c.loop-edge.invariant c.edge-item.is

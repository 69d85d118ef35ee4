use Rattle.std.proofs.Common.{◌<◌, ◌∙◌, [], ◌∷◌, Some, ap, arith, length, subst, sym}
use Rattle.tuple_edge.specs.Row.{route_of}
use Rattle.tuple_edge.specs.declared.item.Item.TheVariants as item
use Rattle.flux_producer.specs.OutEdge.{OutEdgeView}
use Rattle.flux_producer.specs.ProducerView.{ProducerView, emitted}
use Rattle.pair_machine.specs.Edges.{edge_to}
use Rattle.node_edges.specs.OutEdges.{HasMade}
use Rattle.ingress_egress.proofs.EachSource.{edges_alike, edges_many}
use Rattle.node_edges.proofs.OnEdges.{made_from, made_row}
use Rattle.ingress_egress.proofs.making.emit_row.Goals as goal

pub emit-number-requires-clause-fits : goal.emit-number-requires-clause-fits
emit-number-requires-clause-fits c =
    let same = c.reserve_on.ensures.contents in
    let edge = edges_alike c.reserve_on.new.self.edges c.args.producer.now.edges (ap (λ (p : ProducerView). p.edges) same) c.route-to.result in
    let inside : c.route-to.result < length c.args.producer.now.edges = let b = c.route-to.ensures.below in let t = c.requires.targets in omega arith in
    let fits = c.requires.fits c.route-to.result inside in
    let produced = ap (λ (e : OutEdgeView). e.buffer.produced) edge in omega arith

pub returns-clause-made : goal.returns-clause-made
returns-clause-made c =
    let same = c.reserve_on.ensures.contents in
    let value = c.route-to.ensures.value in
    let inside : c.route-to.result < length c.reserve_on.new.self.edges =
    let b = c.route-to.ensures.below in let t = c.requires.targets in let many = edges_many c.reserve_on.new.self c.args.producer.now same in omega arith in
    let there : route_of c.args.row c.args.first.now.by c.args.first.now.parts < length c.reserve_on.new.self.edges = subst (λ n. n < length c.reserve_on.new.self.edges) value inside in
    made_from (λ t. edge_to (Some c.args.first.now) t (item.Row c.args.stamp c.args.row ∷ [])) c.args.producer.now c.reserve_on.new.self c.emit-number.new.self same
    (subst (HasMade (λ t. edge_to (Some c.args.first.now) t (item.Row c.args.stamp c.args.row ∷ [])) c.reserve_on.new.self)
    (sym (c.emit-number.ensures.emitted ∙ ap (λ k. emitted c.reserve_on.new.self k (item.Row c.args.stamp c.args.row)) value))
    (made_row c.reserve_on.new.self c.args.first.now c.args.stamp c.args.row there))

use Rattle.std.proofs.Common.{◌≡◌, ◌<◌, ◌∙◌, ap, arith, length, subst, sym}
use Rattle.flux_producer.specs.ProducerView.{HasRoom, ProducerView}
use Rattle.ingress_egress.specs.IngressView.{MayMakeMore, producer_in}
use Rattle.ingress_egress.proofs.EachSource.{made_next, still}
use Rattle.ingress_egress.proofs.making.make_each.Goals as goal

inside : (c : goal.After-index_mut) → c.loop-source.source < length c.loop-source.producers.items
inside c = omega arith

was : (c : goal.After-index_mut) → producer_in c.args.producers.now.items c.loop-source.source ≡ c.index_mut.result.now
was c = still _ c.args.producers.now.items c.loop-source.producers.items c.loop-source.source c.index_mut.result.now c.loop-source.invariant (inside c) c.index_mut.ensures.value

first_inside : (c : goal.After-index_mut) → c.loop-source.source < length c.args.producers.now.items
first_inside c = let e = c.loop-source.invariant.len in let l = inside c in omega arith

pub make_at-requires-clause-room : goal.make_at-requires-clause-room
make_at-requires-clause-room c = subst (λ (y : ProducerView). HasRoom y.edges 2) (was c) (c.requires.room c.loop-source.source (first_inside c))

pub make_at-requires-clause-fits : goal.make_at-requires-clause-fits
make_at-requires-clause-fits c = subst (λ y. MayMakeMore 2 y) (was c) (c.requires.fits c.loop-source.source (first_inside c))

pub make_at-requires-clause-targets : goal.make_at-requires-clause-targets
make_at-requires-clause-targets c = ap (λ (y : ProducerView). length y.edges) (sym (was c)) ∙ c.requires.wide.targets c.loop-source.source (first_inside c)

pub loop-source-preserved : goal.loop-source-preserved
loop-source-preserved c =
    made_next _ c.args.producers.now.items c.loop-source.producers.items c.loop-source.source c.index_mut.result.now _ c.loop-source.invariant (omega arith) c.index_mut.ensures.value c.make_at.ensures

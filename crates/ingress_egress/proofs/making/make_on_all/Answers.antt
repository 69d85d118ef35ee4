use Rattle.std.proofs.Common.{arith}
use Rattle.ingress_egress.proofs.EachSource.{alike, fits_alike, wide_alike}
use Rattle.node_edges.proofs.OnEdges.{made_from}
use Rattle.ingress_egress.proofs.making.make_on_all.Goals as goal

pub make_each-requires-clause-wide : goal.make_each-requires-clause-wide
make_each-requires-clause-wide c =
    wide_alike c.args.first.now.parts c.reserve_each.new.producers.items c.args.producers.now.items c.reserve_each.ensures.contents c.reserve_each.ensures.len c.requires.wide

pub make_each-requires-clause-fits : goal.make_each-requires-clause-fits
make_each-requires-clause-fits c = fits_alike 2 c.reserve_each.new.producers.items c.args.producers.now.items c.reserve_each.ensures.contents c.reserve_each.ensures.len c.requires.fits

pub returns-clause-made : goal.returns-clause-made
returns-clause-made c = λ q l.
    made_from _ _ _ _ (alike c.reserve_each.new.producers.items c.args.producers.now.items c.reserve_each.ensures.contents q)
    (c.make_each.ensures.made q (let e = c.reserve_each.ensures.len in omega arith))

use Rattle.std.proofs.Common.{◌<◌, ◌∙◌, ap, subst, sym}
use Rattle.flux_core.specs.CoreView.{gone_by}
use Rattle.flux_core.proofs.Opened.{bared, first_there}
use Rattle.flux_core.proofs.nodes.Core.of.Goals as goal

pub index-requires : goal.index-requires
index-requires g c = subst (λ n. 0 < n) (sym c.args.nodes.ok.0) (first_there c.args.plan.now c.args.nodes.items c.requires.names)

pub invariant_of-result : goal.invariant_of-result
invariant_of-result g c =
    let o = bared c.args.plan.now c.in_ok-copy_of.field-0 c.args.nodes.items c.index.result.now c.in_ok-stations.stations.items c.in_ok-stations.ensures c.in_ok-copy_of.ensures.copy c.copy_of.ensures.limits
    c.index.ensures c.times_of.ensures c.requires.names c.requires.given c.requires.came in
    (o.is, λ all. ap gone_by o.same ∙ c.requires.rows all)

pub returns : goal.returns
returns g c =
    let o = bared c.args.plan.now c.in_ok-copy_of.field-0 c.args.nodes.items c.index.result.now c.in_ok-stations.stations.items c.in_ok-stations.ensures c.in_ok-copy_of.ensures.copy c.copy_of.ensures.limits
    c.index.ensures c.times_of.ensures c.requires.names c.requires.given c.requires.came in
    o.same

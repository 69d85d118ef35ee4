use Rattle.std.proofs.Common.{◌<◌, subst, sym}
use Rattle.trade_text.specs.TradesView.{inputs_in}
use Rattle.flux_core.proofs.Opened.{first_there, opened}
use Rattle.flux_core.proofs.opening.Core.new.Goals as goal

pub index-requires : goal.index-requires
index-requires c = subst (λ n. 0 < n) (sym c.in_ok-nodes.nodes.ok.0) (first_there c.args.plan.now c.in_ok-nodes.nodes.items c.in_ok-nodes.ensures.names)

pub invariant_of-result : goal.invariant_of-result
invariant_of-result c =
    let o = opened c.args.plan.now c.in_ok-copy_of.field-0 (inputs_in c.args.trades.now) c.in_ok-nodes.nodes.items c.index.result.now c.in_ok-stations.stations.items c.in_ok-stations.ensures c.in_ok-copy_of.ensures.copy c.copy_of.ensures.limits
    c.index.ensures c.times_of.ensures c.in_ok-nodes.ensures.names c.in_ok-nodes.ensures.opens in
    (o.is, λ all. o.gone)

pub returns-clause-opens : goal.returns-clause-opens
returns-clause-opens c =
    let o = opened c.args.plan.now c.in_ok-copy_of.field-0 (inputs_in c.args.trades.now) c.in_ok-nodes.nodes.items c.index.result.now c.in_ok-stations.stations.items c.in_ok-stations.ensures c.in_ok-copy_of.ensures.copy c.copy_of.ensures.limits
    c.index.ensures c.times_of.ensures c.in_ok-nodes.ensures.names c.in_ok-nodes.ensures.opens in
    o.opens

pub returns-clause-inputs : goal.returns-clause-inputs
returns-clause-inputs c =
    let o = opened c.args.plan.now c.in_ok-copy_of.field-0 (inputs_in c.args.trades.now) c.in_ok-nodes.nodes.items c.index.result.now c.in_ok-stations.stations.items c.in_ok-stations.ensures c.in_ok-copy_of.ensures.copy c.copy_of.ensures.limits
    c.index.ensures c.times_of.ensures c.in_ok-nodes.ensures.names c.in_ok-nodes.ensures.opens in
    o.inputs

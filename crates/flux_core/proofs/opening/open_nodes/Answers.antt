use Rattle.std.proofs.Common.{◌≡◌, ◌∙◌, ◌<◌, ◌≤◌, ◌+◌, arith, length, subst, sym, true}
use Rattle.plan_reader.specs.Nodes.{has_node}
use Rattle.trade_text.specs.TradesView.{inputs_in}
use Rattle.flux_core.proofs.Opened.{AreOpenedTo, opened_all, opened_next, opened_none}
use Rattle.flux_core.proofs.opening.open_nodes.Goals as goal

pub loop-place-init : goal.loop-place-init
loop-place-init c = opened_none c.args.plan.now (inputs_in c.args.trades.now) c.in_ok-ids.ids.items c.in_ok-nodes.nodes.items c.in_ok-nodes.ensures.items

pub opening_state-requires : goal.opening_state-requires
opening_state-requires c =
    let within : c.loop-place.place < length c.in_ok-ids.ids.items = omega (arith, c.loop-place-test.true, c.len.ensures, c.in_ok-ids.ids.ok.0) in
    subst (λ n. has_node c.args.plan.now n ≡ true) (sym c.index.ensures) (c.in_ok-ids.ensures.there c.loop-place.place c.index.result.now within)

pub loop-place-preserved : goal.loop-place-preserved
loop-place-preserved c =
    let within : c.loop-place.place < length c.in_ok-ids.ids.items = omega (arith, c.loop-place-test.true, c.len.ensures, c.in_ok-ids.ids.ok.0) in
    subst (λ ns. AreOpenedTo c.args.plan.now (inputs_in c.args.trades.now) c.in_ok-ids.ids.items ns (c.loop-place.place + 1)) (sym c.in_ok-push.ensures.items)
    (opened_next c.args.plan.now (inputs_in c.args.trades.now) c.in_ok-ids.ids.items c.loop-place.nodes.items c.loop-place.place c.index.result.now c.in_ok-node.node c.loop-place.invariant within c.index.ensures
    c.in_ok-node.ensures.id c.in_ok-node.ensures.stands c.in_ok-node.ensures.ended c.in_ok-node.ensures.gone)

pub returns-clause-names : goal.returns-clause-names
returns-clause-names c =
    let full : length c.in_ok-ids.ids.items ≤ c.loop-place.place = omega (arith, c.loop-place-test.false, c.len.ensures, c.in_ok-ids.ids.ok.0) in
    opened_all c.args.plan.now (inputs_in c.args.trades.now) c.in_ok-ids.ids.items c.loop-place.nodes.items c.loop-place.place c.loop-place.invariant full ∙ c.in_ok-ids.ensures.value

use Rattle.std.proofs.Common.{◌≡◌, ◌∙◌, false, length, ap, sym, arith}
use Rattle.pair_machine.specs.Numbers.{is_node}
use Rattle.run_node.specs.NodeView.{NodeView}
use Rattle.run_node.proofs.Places.{each_take_one, each_whole}
use Rattle.linked_run.proofs.Settled.{first_with, none_with}
use Rattle.linked_run.proofs.settling.place_of.Goals as goal

pub returns-then-has_id : goal.returns-then-has_id
returns-then-has_id g c =
    first_with g.A.Acts.id c.args.id c.args.nodes.now c.loop-place.place c.index-nodes-place.result (omega (arith, c.loop-place-test.true)) c.loop-place.invariant
    (ap (λ (v : NodeView _ _). is_node (g.A.Acts.id v.state) c.args.id) (sym c.index-nodes-place.is) ∙ (sym c.has_id.ensures ∙ c.if-has_id.true))

pub loop-place-preserved : goal.loop-place-preserved
loop-place-preserved g c =
    each_take_one (λ (v : NodeView _ _). is_node (g.A.Acts.id v.state) c.args.id ≡ false) c.args.nodes.now c.loop-place.place c.index-nodes-place.result (omega (arith, c.loop-place-test.true)) c.loop-place.invariant
    (ap (λ (v : NodeView _ _). is_node (g.A.Acts.id v.state) c.args.id) (sym c.index-nodes-place.is) ∙ (sym c.has_id.ensures ∙ c.if-has_id.false))

pub returns : goal.returns
returns g c =
    let all : length c.args.nodes.now ≡ c.loop-place.place = omega (arith, c.loop-place-test.false, c.loop-place.auto.place-end) in
    none_with g.A.Acts.id c.args.id c.args.nodes.now (each_whole (λ (v : NodeView _ _). is_node (g.A.Acts.id v.state) c.args.id ≡ false) c.args.nodes.now c.loop-place.place all c.loop-place.invariant)

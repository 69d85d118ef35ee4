use Rattle.std.proofs.Common.{◌≡◌, ◌∙◌, ◌<◌, length, subst, arith}
use Rattle.std.specs.Prelude.{Some, slice_get}
use Rattle.pair_machine.specs.Lists.{Each}
use Rattle.run_node.specs.NodeView.{NodeView}
use Rattle.linked_run.specs.Runs.{IsSettled}
use Rattle.run_node.proofs.Places.{each_take_by}
use Rattle.linked_run.proofs.settling.settle_all.Goals as goal

pub loop-to-preserved : goal.loop-to-preserved
loop-to-preserved g c =
    let h = c.loop-to.invariant in
    let id = g.A.Acts.id in
    let vs = c.args.nodes.now in
    let lt : c.loop-to.to < length vs = omega (arith, c.loop-to-test.true) in
    let one = subst (λ (l : _). (u : NodeView _ _) → slice_get l c.loop-to.to ≡ Some u → Each (IsSettled id l (id u.state)) u.ins) h.same c.settle_node.ensures.settled in
    record {
      same = c.settle_node.ensures.same ∙ h.same;
      settled = each_take_by (λ (v : NodeView _ _). Each (IsSettled id vs (id v.state)) v.ins) vs c.loop-to.to lt h.settled one;
    }

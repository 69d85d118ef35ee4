use Rattle.std.proofs.Common.{◌≡◌, ◌∙◌, ◌<◌, length, slice_index_or, ap, subst, arith}
use Rattle.std.specs.Prelude.{Some, slice_get}
use Rattle.run_node.specs.Ends.{InLink}
use Rattle.run_node.specs.NodeView.{NodeView}
use Rattle.linked_run.specs.Runs.{IsSettled}
use Rattle.run_node.proofs.Places.{each_take_by, each_whole, get_there}
use Rattle.linked_run.proofs.Settled.{some_same}
use Rattle.linked_run.proofs.settling.settle_node.Goals as goal

pub loop-inlet-preserved : goal.loop-inlet-preserved
loop-inlet-preserved g c =
    let h = c.loop-inlet.invariant in
    let id = g.A.Acts.id in
    let vs = c.args.nodes.now in
    record {
      same = c.settle_link.ensures.same ∙ h.same;
      settled = λ v at.
          let node = slice_index_or vs c.args.to c.index-nodes-to.result in
          let is : node ≡ v = some_same (slice_get vs c.args.to) node v (get_there vs c.args.to c.index-nodes-to.result c.requires.to) at in
          let many : length node.ins ≡ length v.ins = ap (λ (x : NodeView _ _). length x.ins) is in
          let lt : c.loop-inlet.inlet < length v.ins = omega (arith, c.loop-inlet-test.true, c.inlets-inlet-end.ensures, many) in
          let one = subst (λ (l : _). (u : NodeView _ _) (k : InLink) → slice_get l c.args.to ≡ Some u → slice_get u.ins c.loop-inlet.inlet ≡ Some k → IsSettled id l (id u.state) k) h.same c.settle_link.ensures.settled in
          each_take_by (IsSettled id vs (id v.state)) v.ins c.loop-inlet.inlet lt (h.settled v at) (λ k k_at. one v k at k_at);
    }

pub returns-clause-settled : goal.returns-clause-settled
returns-clause-settled g c = λ v at.
    let h = c.loop-inlet.invariant in
    let vs = c.args.nodes.now in
    let node = slice_index_or vs c.args.to c.index-nodes-to.result in
    let is : node ≡ v = some_same (slice_get vs c.args.to) node v (get_there vs c.args.to c.index-nodes-to.result c.requires.to) at in
    let many : length node.ins ≡ length v.ins = ap (λ (x : NodeView _ _). length x.ins) is in
    let all : length v.ins ≡ c.loop-inlet.inlet = omega (arith, c.loop-inlet-test.false, c.loop-inlet.auto.inlet-end, c.inlets-inlet-end.ensures, many) in
    each_whole (IsSettled g.A.Acts.id vs (g.A.Acts.id v.state)) v.ins c.loop-inlet.inlet all (h.settled v at)

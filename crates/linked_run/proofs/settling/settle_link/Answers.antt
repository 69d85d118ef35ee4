use Rattle.std.proofs.Common.{◌≡◌, ◌∙◌, None, slice_index_or, ap, subst, arith}
use Rattle.std.specs.Prelude.{Some, slice_get}
use Rattle.run_node.specs.NodeView.{NodeView}
use Rattle.linked_run.specs.Runs.{IsFirstWith, IsSettled, view_at}
use Rattle.run_node.proofs.Places.{get_there}
use Rattle.linked_run.proofs.Settled.{at_back, at_front, sender_links, sender_other, sender_there, settled_by, some_same}
use Rattle.linked_run.proofs.settling.settle_link.Goals as goal

pub returns-in_default-clause-settled : goal.returns-in_default-clause-settled
returns-in_default-clause-settled g c = λ v l at in_at.
    let id = g.A.Acts.id in
    let vs = c.args.nodes.now in
    let node = slice_index_or vs c.args.to c.index-nodes-to.result in
    let here : slice_get vs c.args.to ≡ Some node = get_there vs c.args.to c.index-nodes-to.result c.requires.to in
    let same = some_same (slice_get vs c.args.to) node v here at in
    let from = c.sender-sender.ensures l (ap (λ (x : NodeView _ _). slice_get x.ins c.args.inlet) same ∙ in_at) in
    absurd (sender_there id vs c.requires.linked c.args.to c.args.inlet v l at in_at (subst (λ n. view_at id vs n ≡ None) from c.in_default.ensures))

pub settle-requires-clause-inlet : goal.settle-requires-clause-inlet
settle-requires-clause-inlet g c κs within =
    let s = c.split_at_mut-left in
    c.requires.inlet _ (at_back c.args.nodes.now s.result.1.now c.args.to c.index-right-0.result s.ensures.back c.requires.to)

pub settle-requires-clause-link : goal.settle-requires-clause-link
settle-requires-clause-link g c κs within = λ l in_at.
    let id = g.A.Acts.id in
    let vs = c.args.nodes.now in
    let s = c.split_at_mut-left in
    let v = slice_index_or s.result.1.now 0 c.index-right-0.result in
    let w = slice_index_or s.result.0.now c.in-Some.from c.index-left-from.result in
    let at : slice_get vs c.args.to ≡ Some v = at_back vs s.result.1.now c.args.to c.index-right-0.result s.ensures.back c.requires.to in
    let w_at : slice_get vs c.in-Some.from ≡ Some w = at_front vs s.result.0.now c.args.to c.in-Some.from c.index-left-from.result s.ensures.front c.if-from-to.true c.in-Some.ensures.within in
    let node = slice_index_or vs c.args.to c.index-nodes-to.result in
    let here : slice_get vs c.args.to ≡ Some node = get_there vs c.args.to c.index-nodes-to.result c.requires.to in
    let same = some_same (slice_get vs c.args.to) node v here at in
    let from = c.sender-sender.ensures l (ap (λ (x : NodeView _ _). slice_get x.ins c.args.inlet) same ∙ in_at) in
    let first : IsFirstWith id vs l.from c.in-Some.from = subst (λ n. IsFirstWith id vs n c.in-Some.from) from c.in-Some.ensures in
    sender_links id vs c.requires.linked c.args.to c.args.inlet v l at in_at c.in-Some.from first w w_at

pub settle-requires-then-to-from-clause-inlet : goal.settle-requires-then-to-from-clause-inlet
settle-requires-then-to-from-clause-inlet g c κs within =
    let s = c.split_at_mut-left-then-to-from in
    c.requires.inlet _ (at_front c.args.nodes.now s.result.0.now c.in-Some.from c.args.to c.index-left-to.result s.ensures.front c.if-to-from.true c.requires.to)

pub settle-requires-then-to-from-clause-link : goal.settle-requires-then-to-from-clause-link
settle-requires-then-to-from-clause-link g c κs within = λ l in_at.
    let id = g.A.Acts.id in
    let vs = c.args.nodes.now in
    let s = c.split_at_mut-left-then-to-from in
    let v = slice_index_or s.result.0.now c.args.to c.index-left-to.result in
    let w = slice_index_or s.result.1.now 0 c.index-right-0-then-to-from.result in
    let at : slice_get vs c.args.to ≡ Some v = at_front vs s.result.0.now c.in-Some.from c.args.to c.index-left-to.result s.ensures.front c.if-to-from.true c.requires.to in
    let w_at : slice_get vs c.in-Some.from ≡ Some w = at_back vs s.result.1.now c.in-Some.from c.index-right-0-then-to-from.result s.ensures.back c.in-Some.ensures.within in
    let node = slice_index_or vs c.args.to c.index-nodes-to.result in
    let here : slice_get vs c.args.to ≡ Some node = get_there vs c.args.to c.index-nodes-to.result c.requires.to in
    let same = some_same (slice_get vs c.args.to) node v here at in
    let from = c.sender-sender.ensures l (ap (λ (x : NodeView _ _). slice_get x.ins c.args.inlet) same ∙ in_at) in
    let first : IsFirstWith id vs l.from c.in-Some.from = subst (λ n. IsFirstWith id vs n c.in-Some.from) from c.in-Some.ensures in
    sender_links id vs c.requires.linked c.args.to c.args.inlet v l at in_at c.in-Some.from first w w_at

pub returns-then-from-to-clause-settled : goal.returns-then-from-to-clause-settled
returns-then-from-to-clause-settled g c = λ u l u_at u_in.
    let id = g.A.Acts.id in
    let vs = c.args.nodes.now in
    let s = c.split_at_mut-left in
    let v = slice_index_or s.result.1.now 0 c.index-right-0.result in
    let w = slice_index_or s.result.0.now c.in-Some.from c.index-left-from.result in
    let at : slice_get vs c.args.to ≡ Some v = at_back vs s.result.1.now c.args.to c.index-right-0.result s.ensures.back c.requires.to in
    let w_at : slice_get vs c.in-Some.from ≡ Some w = at_front vs s.result.0.now c.args.to c.in-Some.from c.index-left-from.result s.ensures.front c.if-from-to.true c.in-Some.ensures.within in
    let is : v ≡ u = some_same (slice_get vs c.args.to) v u at u_at in
    let in_at : slice_get v.ins c.args.inlet ≡ Some l = ap (λ (x : NodeView _ _). slice_get x.ins c.args.inlet) is ∙ u_in in
    let node = slice_index_or vs c.args.to c.index-nodes-to.result in
    let here : slice_get vs c.args.to ≡ Some node = get_there vs c.args.to c.index-nodes-to.result c.requires.to in
    let same = some_same (slice_get vs c.args.to) node v here at in
    let from = c.sender-sender.ensures l (ap (λ (x : NodeView _ _). slice_get x.ins c.args.inlet) same ∙ in_at) in
    let first : IsFirstWith id vs l.from c.in-Some.from = subst (λ n. IsFirstWith id vs n c.in-Some.from) from c.in-Some.ensures in
    subst (λ (x : NodeView _ _). IsSettled id vs (id x.state) l) is (settled_by id vs c.requires.linked c.args.to c.args.inlet v l at in_at c.in-Some.from first w w_at (c.settle.ensures.settled l in_at))

pub returns-then-to-from-clause-settled : goal.returns-then-to-from-clause-settled
returns-then-to-from-clause-settled g c = λ u l u_at u_in.
    let id = g.A.Acts.id in
    let vs = c.args.nodes.now in
    let s = c.split_at_mut-left-then-to-from in
    let v = slice_index_or s.result.0.now c.args.to c.index-left-to.result in
    let w = slice_index_or s.result.1.now 0 c.index-right-0-then-to-from.result in
    let at : slice_get vs c.args.to ≡ Some v = at_front vs s.result.0.now c.in-Some.from c.args.to c.index-left-to.result s.ensures.front c.if-to-from.true c.requires.to in
    let w_at : slice_get vs c.in-Some.from ≡ Some w = at_back vs s.result.1.now c.in-Some.from c.index-right-0-then-to-from.result s.ensures.back c.in-Some.ensures.within in
    let is : v ≡ u = some_same (slice_get vs c.args.to) v u at u_at in
    let in_at : slice_get v.ins c.args.inlet ≡ Some l = ap (λ (x : NodeView _ _). slice_get x.ins c.args.inlet) is ∙ u_in in
    let node = slice_index_or vs c.args.to c.index-nodes-to.result in
    let here : slice_get vs c.args.to ≡ Some node = get_there vs c.args.to c.index-nodes-to.result c.requires.to in
    let same = some_same (slice_get vs c.args.to) node v here at in
    let from = c.sender-sender.ensures l (ap (λ (x : NodeView _ _). slice_get x.ins c.args.inlet) same ∙ in_at) in
    let first : IsFirstWith id vs l.from c.in-Some.from = subst (λ n. IsFirstWith id vs n c.in-Some.from) from c.in-Some.ensures in
    subst (λ (x : NodeView _ _). IsSettled id vs (id x.state) l) is (settled_by id vs c.requires.linked c.args.to c.args.inlet v l at in_at c.in-Some.from first w w_at (c.settle-then-to-from.ensures.settled l in_at))

pub returns-else-to-from-clause-settled : goal.returns-else-to-from-clause-settled
returns-else-to-from-clause-settled g c = λ v l at in_at.
    let id = g.A.Acts.id in
    let vs = c.args.nodes.now in
    let node = slice_index_or vs c.args.to c.index-nodes-to.result in
    let here : slice_get vs c.args.to ≡ Some node = get_there vs c.args.to c.index-nodes-to.result c.requires.to in
    let same = some_same (slice_get vs c.args.to) node v here at in
    let from = c.sender-sender.ensures l (ap (λ (x : NodeView _ _). slice_get x.ins c.args.inlet) same ∙ in_at) in
    let first : IsFirstWith id vs l.from c.in-Some.from = subst (λ n. IsFirstWith id vs n c.in-Some.from) from c.in-Some.ensures in
    let one : c.in-Some.from ≡ c.args.to = omega (arith, c.if-from-to.false, c.if-to-from.false) in
    absurd (sender_other id vs c.requires.linked c.args.to c.args.inlet v l at in_at c.in-Some.from first node (ap (slice_get vs) one ∙ here) one)

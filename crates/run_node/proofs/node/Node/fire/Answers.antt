use Rattle.std.proofs.Common.{◌∙◌, ap, sym, subst}
use Rattle.pair_machine.specs.Lists.{Among}
use Rattle.pair_machine.specs.Machine.{partner_node, replica_in}
use Rattle.run_node.specs.NodeView.{NodeName, NodeView}
use Rattle.run_node.proofs.Merged.{has_fewer, partner_is}
use Rattle.run_node.proofs.node.Node.fire.Goals as goal

pub obey-requires-clause-allowed : goal.obey-requires-clause-allowed
obey-requires-clause-allowed g c κs within = λ due x merged.
    let o = c.due_for-due.ensures.may_kill due in
    let id = c.id.ensures ∙ ap (λ (v : NodeView _ _). g.A.Acts.id v.state) c.self.view_is in
    (o.0, subst (Among o.0) c.requires o.1, o.2 ∙ id, o.3, has_fewer (replica_in x) o.0.at c.in-Some.count o.4 merged)

pub obey-requires-2-clause-allowed : goal.obey-requires-2-clause-allowed
obey-requires-2-clause-allowed g c κs within = λ due x merged.
    let o = c.due_for-due.ensures.may_stop due in
    let id = c.id.ensures ∙ ap (λ (v : NodeView _ _). g.A.Acts.id v.state) c.self.view_is in
    let still = sym (ap (λ (n : NodeName). n.id) c.obey.ensures) in
    (o.0, subst (Among o.0) c.requires o.1, o.2 ∙ (id ∙ still), o.3, has_fewer (replica_in x) o.0.at c.in-Some.count o.4 merged)

pub obey-requires-3-clause-allowed : goal.obey-requires-3-clause-allowed
obey-requires-3-clause-allowed g c κs within = λ due x merged.
    let r = c.due_for-due.ensures.may_return due in
    let o = r.2 in
    let id = c.id.ensures ∙ ap (λ (v : NodeView _ _). g.A.Acts.id v.state) c.self.view_is in
    let still = sym (ap (λ (n : NodeName). n.id) c.obey.ensures) in
    let later = sym (ap (λ (n : NodeName). n.id) c.obey-2.ensures) in
    let node = o.2 ∙ (partner_is c.id.result r.0 r.1 ∙ ap partner_node (id ∙ (still ∙ later))) in
    (o.0, subst (Among o.0) c.requires o.1, node, o.3, o.4, has_fewer (replica_in x) o.3 c.in-Some.count o.5 merged)

use Rattle.std.proofs.Common.{◌≤◌, sym, subst, arith}
use Rattle.pair_machine.specs.Machine.{replica_in}
use Rattle.run_node.specs.NodeView.{NodeView}
use Rattle.run_node.proofs.Merged.{has_fewer}
use Rattle.run_node.proofs.node.Node.obey.Goals as goal

pub event-requires-clause-allowed : goal.event-requires-clause-allowed
event-requires-clause-allowed g c κs within = λ inputs x k.
    let stands = subst (λ (v : NodeView _ _). g.A.Acts.stands g.N.RunNames.plan inputs v.state x) (sym c.self.view_is) k in
    let enough : c.args.count ≤ c.in-Some.merged = omega (arith, c.if-merged-count.false) in
    c.requires.allowed c.if-not-is_due.false x
    (has_fewer (replica_in x) c.args.count c.in-Some.merged enough (c.in-Some.ensures.merged g.N.RunNames.plan inputs x stands))

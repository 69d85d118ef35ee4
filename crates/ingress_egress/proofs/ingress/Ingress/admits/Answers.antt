use Rattle.std.proofs.Common.{◌∙◌}
use Rattle.ingress_egress.proofs.Admitting.{ingress_admits}
use Rattle.ingress_egress.proofs.ingress.Ingress.admits.Goals as goal

pub returns-then-links-clause-complete : goal.returns-then-links-clause-complete
returns-then-links-clause-complete c = λ rows s m is sound stands small among st.
    c.may_take.ensures.1 (ingress_admits c.args.plan.now rows is c.args.self.now c.args.from c.args.body.now s m sound stands small among st).1

pub returns-else-links-clause-complete : goal.returns-else-links-clause-complete
returns-else-links-clause-complete c = λ rows s m is sound stands small among st.
    c.links.ensures ∙ (ingress_admits c.args.plan.now rows is c.args.self.now c.args.from c.args.body.now s m sound stands small among st).0

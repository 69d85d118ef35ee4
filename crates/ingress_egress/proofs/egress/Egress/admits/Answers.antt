use Rattle.std.proofs.Common.{◌∙◌}
use Rattle.ingress_egress.proofs.Admitting.{egress_admits}
use Rattle.ingress_egress.proofs.egress.Egress.admits.Goals as goal

pub returns-then-links-clause-complete : goal.returns-then-links-clause-complete
returns-then-links-clause-complete c = λ rows s m is times sound stands small among st.
    c.may_take.ensures.1 (egress_admits c.args.plan.now rows is times c.args.self.now c.args.from c.args.body.now s m sound stands small among st).1

pub returns-else-links-clause-complete : goal.returns-else-links-clause-complete
returns-else-links-clause-complete c = λ rows s m is times sound stands small among st.
    c.links.ensures ∙ (egress_admits c.args.plan.now rows is times c.args.self.now c.args.from c.args.body.now s m sound stands small among st).0

use Rattle.std.proofs.Common.{◌∙◌, ap}
use Rattle.plan_reader.specs.Nodes.{has_link}
use Rattle.pair_machine.specs.Links.{link}
use Rattle.replica_node.proofs.Admitting.{replica_admits}
use Rattle.replica_node.proofs.replica.Replica.admits.Goals as goal

pub returns-then-links-clause-complete : goal.returns-then-links-clause-complete
returns-then-links-clause-complete c = λ rows s m is times sound stands small among st.
    c.may_take.ensures.1 (replica_admits c.args.plan.now rows is times c.args.self.now c.args.from c.args.body.now s m sound stands small among st).1

pub returns-else-links-clause-complete : goal.returns-else-links-clause-complete
returns-else-links-clause-complete c = λ rows s m is times sound stands small among st.
    c.links.ensures ∙ ap (λ to. has_link c.args.plan.now (link c.args.from to)) c.id-to.ensures
    ∙ (replica_admits c.args.plan.now rows is times c.args.self.now c.args.from c.args.body.now s m sound stands small among st).0

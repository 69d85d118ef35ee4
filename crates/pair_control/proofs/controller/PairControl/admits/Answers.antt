use Rattle.std.proofs.Common.{◌∙◌, ap}
use Rattle.plan_reader.specs.Nodes.{has_link}
use Rattle.pair_machine.specs.Links.{link}
use Rattle.pair_control.proofs.Admission.{sent_is_admitted}
use Rattle.pair_control.proofs.controller.PairControl.admits.Goals as goal

pub returns-then-links-clause-complete : goal.returns-then-links-clause-complete
returns-then-links-clause-complete c = λ rows s m sound stands room small among st.
    c.may_take.ensures.1 (sent_is_admitted c.args.plan.now rows c.args.self.now c.args.from c.args.body.now s m sound stands room small among st).1

pub returns-else-links-clause-complete : goal.returns-else-links-clause-complete
returns-else-links-clause-complete c = λ rows s m sound stands room small among st.
    c.links.ensures ∙ ap (λ to. has_link c.args.plan.now (link c.args.from to)) c.id-to.ensures
    ∙ (sent_is_admitted c.args.plan.now rows c.args.self.now c.args.from c.args.body.now s m sound stands room small among st).0

use Rattle.std.proofs.Common.{◌∙◌, [], ap, subst, sym}
use Rattle.std.proofs.lemmas.List.{append-nil}
use Rattle.ingress_egress.specs.EgressStands.{IsOfPlan}
use Rattle.ingress_egress.specs.EgressView.{EgressView, IsFrontOf}
use Rattle.ingress_egress.proofs.EgressPlan.{same_front}
use Rattle.ingress_egress.proofs.EgressSteps.{either}
use Rattle.trio_machine.specs.declared.node.TrioNode.TheVariants as node
use Rattle.trio_nodes.specs.Egress.{working}
use Rattle.trio_nodes.specs.Outbox.{TrioOutboxView}
use Rattle.trio_nodes.proofs.EgressSteps.{sent_linked, stays_emitted, stays_of_plan, work_done, works_linked}
use Rattle.trio_nodes.proofs.egress.TrioEgress.work.Goals as goal

pub returns-clause-linked : goal.returns-clause-linked
returns-clause-linked c = either c.do_first.result _ _ _
    (λ e plan is. sent_linked plan node.Egress c.args.out.now.packets c.do_first.new.out.packets (working c.args.self.now).sent e (works_linked plan c.args.self.now is c.do_first.ensures.some))
    (λ u plan is. sent_linked plan node.Egress c.args.out.now.packets c.do_first.new.out.packets [] (ap (λ (o : TrioOutboxView). o.packets) u.1 ∙ sym (append-nil c.args.out.now.packets)) tt)
    c.do_first.ensures.packets c.do_first.ensures.unchanged

pub returns-clause-of_plan : goal.returns-clause-of_plan
returns-clause-of_plan c = either c.do_first.result _ _ _
    (λ e plan is. subst (IsOfPlan plan) (sym e) (stays_of_plan plan c.args.self.now is))
    (λ u plan is. subst (IsOfPlan plan) (sym u.0) is)
    c.do_first.ensures.after c.do_first.ensures.unchanged

pub returns-clause-emitted : goal.returns-clause-emitted
returns-clause-emitted c = either c.do_first.result _ _ _
    (λ e. subst (λ (v : EgressView). IsFrontOf c.args.self.now.emitted v.emitted) (sym e) (stays_emitted c.args.self.now))
    (λ u. same_front c.args.self.now.emitted c.do_first.new.self.emitted (ap (λ (v : EgressView). v.emitted) u.0))
    c.do_first.ensures.after c.do_first.ensures.unchanged

pub returns-clause-step : goal.returns-clause-step
returns-clause-step c = work_done c.do_first.result c.args.self.now c.do_first.new.self c.do_first.ensures.worked c.do_first.ensures.after

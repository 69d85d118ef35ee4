use Rattle.std.proofs.Common.{◌∙◌, [], ap, arith, length, subst, sym}
use Rattle.std.proofs.lemmas.List.{append-nil}
use Rattle.tuple_edge.specs.Outbox.{OutboxView}
use Rattle.tuple_edge.specs.declared.node.NodeId.TheVariants as node
use Rattle.ingress_egress.specs.IngressStands.{IsOfPlan}
use Rattle.ingress_egress.specs.IngressView.{working}
use Rattle.ingress_egress.proofs.EgressPlan.{sent_linked}
use Rattle.ingress_egress.proofs.EgressSteps.{either}
use Rattle.ingress_egress.proofs.IngressPlan.{works_few, works_linked, works_of_plan}
use Rattle.ingress_egress.proofs.IngressSteps.{work_done}
use Rattle.ingress_egress.proofs.ingress.Ingress.work.Goals as goal

pub returns-clause-few : goal.returns-clause-few
returns-clause-few c = either c.send_first.result _ _ _
    (λ e. works_few c.args.self.now c.args.out.now.packets c.send_first.new.out.packets e)
    (λ u. let same = ap (λ (o : OutboxView). length o.packets) u.1 in omega arith)
    c.send_first.ensures.packets c.send_first.ensures.unchanged

pub returns-clause-linked : goal.returns-clause-linked
returns-clause-linked c = either c.send_first.result _ _ _
    (λ e plan is. sent_linked plan node.Ingress c.args.out.now.packets c.send_first.new.out.packets (working c.args.self.now).sent e (works_linked plan c.args.self.now is c.send_first.ensures.wide))
    (λ u plan is. sent_linked plan node.Ingress c.args.out.now.packets c.send_first.new.out.packets [] (ap (λ (o : OutboxView). o.packets) u.1 ∙ sym (append-nil c.args.out.now.packets)) tt)
    c.send_first.ensures.packets c.send_first.ensures.unchanged

pub returns-clause-of_plan : goal.returns-clause-of_plan
returns-clause-of_plan c = either c.send_first.result _ _ _
    (λ e plan is. subst (IsOfPlan plan) (sym e) (works_of_plan plan c.args.self.now is))
    (λ u plan is. subst (IsOfPlan plan) (sym u.0) is)
    c.send_first.ensures.after c.send_first.ensures.unchanged

pub returns-clause-course : goal.returns-clause-course
returns-clause-course c = work_done c.send_first.result c.args.self.now c.send_first.new.self c.send_first.ensures.worked c.send_first.ensures.after

use Rattle.std.proofs.Common.{◌∙◌, ap, subst, sym}
use Rattle.ingress_egress.specs.EgressStands.{IsOfPlan, IsTaken}
use Rattle.ingress_egress.specs.EgressView.{EgressView, taking}
use Rattle.ingress_egress.proofs.EgressPlan.{takes_of_plan}
use Rattle.ingress_egress.proofs.EgressSteps.{either, take_course, when_ok}
use Rattle.ingress_egress.proofs.egress.Egress.on.Goals as goal

pub returns-in-Tuple-clause-course : goal.returns-in-Tuple-clause-course
returns-in-Tuple-clause-course c = when_ok c.offer.result _ _
    (λ e plan rows is. subst (λ z. IsTaken plan rows c.args.self.now z c.args.from c.args.body.now) (sym (e ∙ ap (taking c.args.self.now) (sym c.in-Tuple.is)))
    (take_course plan rows c.args.self.now c.args.from c.args.body.now c.requires.admitted))
    c.offer.ensures.taken

pub returns-in-Tuple-clause-emitted : goal.returns-in-Tuple-clause-emitted
returns-in-Tuple-clause-emitted c = either c.offer.result _ _ _ (λ e. ap (λ (v : EgressView). v.emitted) e) (λ e. ap (λ (v : EgressView). v.emitted) e) c.offer.ensures.taken c.offer.ensures.unchanged

pub returns-in-Tuple-clause-of_plan : goal.returns-in-Tuple-clause-of_plan
returns-in-Tuple-clause-of_plan c = either c.offer.result _ _ _
    (λ e plan is. subst (IsOfPlan plan) (sym e) (takes_of_plan plan c.args.self.now _ _ _ is))
    (λ e plan is. subst (IsOfPlan plan) (sym e) is)
    c.offer.ensures.taken c.offer.ensures.unchanged

use Rattle.std.proofs.Common.{◌∙◌, [], ap, subst, sym}
use Rattle.ingress_egress.specs.EgressStands.{IsOfPlan}
use Rattle.ingress_egress.specs.EgressView.{EgressView}
use Rattle.ingress_egress.proofs.EgressPlan.{takes_of_plan}
use Rattle.ingress_egress.proofs.EgressSteps.{either, when_ok}
use Rattle.trio_machine.specs.declared.node.TrioNode.TheVariants as node
use Rattle.trio_nodes.specs.Egress.{StandsFor, taking}
use Rattle.trio_nodes.specs.Steps.{IsTaken}
use Rattle.trio_nodes.proofs.EgressSteps.{take_step}
use Rattle.trio_nodes.proofs.egress.TrioEgress.on.Goals as goal

pub returns-in-Tuple-clause-step : goal.returns-in-Tuple-clause-step
returns-in-Tuple-clause-step c = when_ok c.offer.result _ _
    (λ e plan inputs. subst (λ z. IsTaken plan inputs node.Egress (StandsFor plan inputs c.args.self.now) (StandsFor plan inputs z) c.args.from c.args.body.now []) (sym (e ∙ ap (taking c.args.self.now) (sym c.in-Tuple.is)))
    (take_step plan inputs c.args.self.now c.args.from c.args.body.now c.requires.admitted))
    c.offer.ensures.taken

pub returns-in-Tuple-clause-emitted : goal.returns-in-Tuple-clause-emitted
returns-in-Tuple-clause-emitted c = either c.offer.result _ _ _ (λ e. ap (λ (v : EgressView). v.emitted) e) (λ e. ap (λ (v : EgressView). v.emitted) e) c.offer.ensures.taken c.offer.ensures.unchanged

pub returns-in-Tuple-clause-of_plan : goal.returns-in-Tuple-clause-of_plan
returns-in-Tuple-clause-of_plan c = either c.offer.result _ _ _
    (λ e plan is. subst (IsOfPlan plan) (sym e) (takes_of_plan plan c.args.self.now _ _ _ is))
    (λ e plan is. subst (IsOfPlan plan) (sym e) is)
    c.offer.ensures.taken c.offer.ensures.unchanged

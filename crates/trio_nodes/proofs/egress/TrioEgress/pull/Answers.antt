use Rattle.std.proofs.Common.{rules, ◌≡◌, ◌∙◌, ◌+◌, ap, subst, sym}
use Rattle.merge_order.specs.MergeView.{mark_of}
use Rattle.pair_machine.specs.Consumers.{pulled}
use Rattle.pair_machine.specs.Numbers as pairs
use Rattle.trio_machine.specs.Machine.{egress_in}
use Rattle.trio_machine.specs.Numbers.{EgressNode}
use Rattle.ingress_egress.specs.EgressStands.{IsOfPlan}
use Rattle.trio_nodes.specs.Egress.{StandsFor}
use Rattle.ingress_egress.specs.EgressView.{EgressView, after_tuple}
use Rattle.ingress_egress.proofs.EgressPlan.{takes_of_plan}
use Rattle.ingress_egress.proofs.EgressSteps.{either, pull_stands, when_ok}
use Rattle.trio_nodes.proofs.egress.TrioEgress.pull.Goals as goal

merge_is : (c : goal.After-offer) → c.merge.result.now ≡ c.args.self.now.consumer.merge
merge_is c = search rules

pub returns-clause-stands : goal.returns-clause-stands
returns-clause-stands c = when_ok c.offer.result _ _
    (λ e plan inputs x is s item. subst (λ z. StandsFor plan inputs z (EgressNode (pulled (egress_in x) c.args.edge)))
    (sym (e ∙ ap (λ k. after_tuple c.args.self.now c.args.edge (k + 1) c.args.item) (c.mark-mark.ensures ∙ ap (λ m. mark_of m c.args.edge) (merge_is c))))
    (pull_stands plan inputs c.args.self.now (pairs.EgressNode (egress_in x)) c.args.edge c.args.item c.requires.edge s item))
    c.offer.ensures.taken

pub returns-clause-emitted : goal.returns-clause-emitted
returns-clause-emitted c = either c.offer.result _ _ _ (λ e. ap (λ (v : EgressView). v.emitted) e) (λ e. ap (λ (v : EgressView). v.emitted) e) c.offer.ensures.taken c.offer.ensures.unchanged

pub returns-clause-of_plan : goal.returns-clause-of_plan
returns-clause-of_plan c = either c.offer.result _ _ _
    (λ e plan is. subst (IsOfPlan plan) (sym e) (takes_of_plan plan c.args.self.now c.args.edge _ c.args.item is))
    (λ e plan is. subst (IsOfPlan plan) (sym e) is)
    c.offer.ensures.taken c.offer.ensures.unchanged

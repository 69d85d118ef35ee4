use Rattle.std.proofs.Common.{◌≡◌, ◌∙◌, [], ap, false, length, refl, subst, sym, arith}
use Rattle.ingress_egress.specs.IngressStands.{AreCome}
use Rattle.ingress_egress.specs.IngressView.{AreWide, HaveMadeAtMost, IsIngress, new_producers}
use Rattle.ingress_egress.proofs.IngressPlan.{open_made}
use Rattle.ingress_egress.proofs.IngressSteps.{many, open_wide, opens}
use Rattle.ingress_egress.proofs.ingress.Ingress.streamed.Goals as goal

producers_are : (c : goal.After-new-2) → c.in_ok-producers.producers.items ≡ new_producers c.first_stage-first.result.parts c.args.plan.now.version
producers_are c = c.in_ok-producers.ensures ∙ ap (new_producers c.first_stage-first.result.parts) c.version.ensures.value

pub invariant_of-result : goal.invariant_of-result
invariant_of-result c =
    let same = producers_are c in
    let parts = c.first_stage-first.result.parts in
    let version = c.args.plan.now.version in
    let count : length c.in_ok-producers.producers.items ≡ version = ap length same ∙ many parts version in
    let few = c.version.ensures.limits.version_high in
    let mark = c.mark-mark.ensures.value in
    let some = c.mark-mark.ensures.limits.mark_low in
    subst (λ came. IsIngress came c.new.result.items 0 false c.first_stage-first.result c.mark-mark.result 0 c.in_ok-producers.producers.items) (sym c.new-2.ensures)
    (subst (λ waiting. IsIngress [] waiting 0 false c.first_stage-first.result c.mark-mark.result 0 c.in_ok-producers.producers.items) (sym c.new.ensures.items)
    (record {
      parts = c.first_stage-first.ensures.some;
      mark = omega arith;
      counted = refl;
      few_inputs = omega arith;
      held = refl;
      made = omega arith;
      open_made = λ more. omega arith;
      few_sources = omega arith;
      wide = subst (AreWide parts) (sym same) (open_wide parts version);
      produced = subst (HaveMadeAtMost 0) (sym same) (open_made parts version);
      times = λ k d l. absurd (omega arith);
    }))

pub returns-clause-of_plan : goal.returns-clause-of_plan
returns-clause-of_plan c = record {
  first = c.first_stage-first.ensures.first;
  sources = ap length (producers_are c) ∙ many c.first_stage-first.result.parts c.args.plan.now.version;
}

pub returns-clause-stands : goal.returns-clause-stands
returns-clause-stands c = λ rows.
    opens c.args.plan.now rows c.first_stage-first.ensures.limits _ (subst (λ came. AreCome false came rows) (sym c.new-2.ensures) (rows, refl))
    c.first_stage-first.ensures.first c.mark-mark.ensures.value refl (producers_are c)

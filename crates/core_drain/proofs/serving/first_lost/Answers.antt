use Rattle.std.proofs.Common.{◌≡◌, ◌∙◌, ◌+◌, ap, sym, subst, arith, length, None}
use Rattle.plan_reader.specs.PlanView.{PlanView}
use Rattle.pair_machine.specs.Drain.{first_lost, pairs_up_to, partition}
use Rattle.flux_core.specs.CoreView.{flow_in, inputs_of}
use Rattle.core_drain.proofs.Pairs.{stage_found, stage_next, stages_in}
use Rattle.core_drain.proofs.serving.first_lost.Goals as goal

pub returns-in-Some : goal.returns-in-Some
returns-in-Some g c = λ s stands.
    (let f = flow_in c.args.core.now in
    let stages = c.stage_count-before-end.ensures.value ∙ (ap (λ (p : PlanView). length p.stages) c.plan.ensures ∙ stages_in c.args.core.now.plan (inputs_of c.args.core.now)) in
    let few = c.loop-before-test.true in
    stage_found f s c.loop-before.before f.stages (partition (c.loop-before.before + 1) c.in-Some.part) (omega (arith, stages, few)) (c.loop-before.invariant s stands) (c.in-Some.ensures s stands))

pub loop-before-preserved : goal.loop-before-preserved
loop-before-preserved g c = λ s stands. stage_next (flow_in c.args.core.now) s c.loop-before.before (c.loop-before.invariant s stands) (c.in_default.ensures s stands)

pub returns : goal.returns
returns g c = λ s stands.
    (let f = flow_in c.args.core.now in
    let stages = c.stage_count-before-end.ensures.value ∙ (ap (λ (p : PlanView). length p.stages) c.plan.ensures ∙ stages_in c.args.core.now.plan (inputs_of c.args.core.now)) in
    let last : c.loop-before.before ≡ f.stages = omega (arith, stages, c.loop-before-test.false, c.loop-before.auto.before-end) in
    sym (subst (λ n. first_lost s (pairs_up_to f n) ≡ None) last (c.loop-before.invariant s stands)))

use Rattle.std.proofs.Common.{◌≡◌, ap, ◌∙◌, ◌+◌, sym, subst, arith, refl, None}
use Rattle.plan_reader.specs.Nodes.{parts_of}
use Rattle.plan_reader.specs.PlanView.{PlanView}
use Rattle.pair_machine.specs.Drain.{first_lost, parts_below}
use Rattle.flux_core.specs.CoreView.{flow_in, inputs_of}
use Rattle.core_drain.proofs.Pairs.{part_found, part_next, parts_in}
use Rattle.core_drain.proofs.Turns.{pair_of}
use Rattle.core_drain.proofs.serving.first_lost_of.Goals as goal

pub loop-part-init : goal.loop-part-init
loop-part-init g c = λ s stands. refl

pub is_lost-requires : goal.is_lost-requires
is_lost-requires g c = pair_of c.args.core.now.plan c.args.stage c.loop-part.part c.requires.first c.requires.last (let few = c.loop-part-test.true in let all = c.parts-parts.ensures.value ∙ ap (λ (p : PlanView). parts_of p c.args.stage) c.plan.ensures in omega arith)

pub loop-part-preserved : goal.loop-part-preserved
loop-part-preserved g c = λ s stands. part_next s c.args.stage c.loop-part.part c.is_lost.result (c.is_lost.ensures s stands) c.if-is_lost.false (c.loop-part.invariant s stands)

pub returns-then-is_lost : goal.returns-then-is_lost
returns-then-is_lost g c = λ s stands.
    (let all = c.parts-parts.ensures.value ∙ ap (λ (p : PlanView). parts_of p c.args.stage) c.plan.ensures ∙ parts_in c.args.core.now.plan (inputs_of c.args.core.now) c.args.stage in
    let few = c.loop-part-test.true in
    part_found s c.args.stage c.loop-part.part ((flow_in c.args.core.now).sources (c.args.stage + 1)) c.is_lost.result (omega (arith, all, few)) (c.is_lost.ensures s stands) c.if-is_lost.true (c.loop-part.invariant s stands))

pub returns : goal.returns
returns g c = λ s stands.
    (let all = c.parts-parts.ensures.value ∙ ap (λ (p : PlanView). parts_of p c.args.stage) c.plan.ensures ∙ parts_in c.args.core.now.plan (inputs_of c.args.core.now) c.args.stage in
    let last : c.loop-part.part ≡ c.parts-parts.result = omega (arith, c.loop-part-test.false, c.loop-part.auto.part-end) in
    sym (subst (λ n. first_lost s (parts_below c.args.stage n) ≡ None) (last ∙ all) (c.loop-part.invariant s stands)))

use Rattle.std.proofs.Common.{◌≡◌, ◌∙◌, ◌+◌, ◌++◌, ap, append-nil, append_assoc, arith, string_bytes, sym, length}
use Rattle.std.specs.List.{flat_map}
use Rattle.plan_reader.specs.PlanView.{PlanView}
use Rattle.pair_machine.specs.Drain.{pairs_up_to, parts_below}
use Rattle.trio_core.specs.CoreView.{flow_in}
use Rattle.trio_state.specs.GroupsText.{group_text}
use Rattle.pair_machine.proofs.EachPair.{pairs_next}
use Rattle.trio_state.proofs.GroupLines.{stages_in}
use Rattle.trio_state.proofs.groups.push_groups.Goals as goal

pub loop-stage-init : goal.loop-stage-init
loop-stage-init c s stands = sym (append-nil (string_bytes c.args.text.now))

pub loop-stage-preserved : goal.loop-stage-preserved
loop-stage-preserved c s stands =
    let flow = flow_in c.args.core.now in
    let f = group_text s in
    let old = string_bytes c.args.text.now in
    let stage = c.loop-stage.stage in
    let more = flat_map f (parts_below (stage + 1) (flow.sources (stage + 1 + 1))) in
    c.in_ok-push_stage.ensures s stands
    ∙ ap (λ t. t ++ more) (c.loop-stage.invariant s stands)
    ∙ append_assoc old (flat_map f (pairs_up_to flow stage)) more
    ∙ ap (λ t. old ++ t) (sym (pairs_next f flow stage))

pub returns : goal.returns
returns c s stands =
    let all : c.loop-stage.stage ≡ (flow_in c.args.core.now).stages = omega (arith, c.loop-stage-test.false, c.loop-stage.auto.stage-end, c.stage_count-stages.ensures.value ∙ ap (λ (p : PlanView). length p.stages) c.plan.ensures, stages_in c.args.core.now) in
    c.loop-stage.invariant s stands
    ∙ ap (λ n. string_bytes c.args.text.now ++ flat_map (group_text s) (pairs_up_to (flow_in c.args.core.now) n)) all

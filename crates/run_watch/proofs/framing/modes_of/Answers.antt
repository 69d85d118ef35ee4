use Rattle.std.proofs.Common.{◌≡◌, ◌∙◌, ◌+◌, ◌++◌, ap, arith, sym, length}
use Rattle.std.specs.List.{flat_map}
use Rattle.plan_reader.specs.PlanView.{PlanView}
use Rattle.pair_machine.specs.Drain.{pairs_up_to, parts_below}
use Rattle.flux_core.specs.CoreView.{flow_in}
use Rattle.run_watch.specs.Columns.{pair_modes}
use Rattle.pair_machine.proofs.EachPair.{pairs_next}
use Rattle.flux_core.proofs.PlanNumbers.{stages_in}
use Rattle.run_watch.proofs.framing.modes_of.Goals as goal

pub loop-stage-preserved : goal.loop-stage-preserved
loop-stage-preserved c s stands =
    let flow = flow_in c.args.core.now in
    let f = pair_modes flow s in
    let stage = c.loop-stage.stage in
    let more = flat_map f (parts_below (stage + 1) (flow.sources (stage + 1 + 1))) in
    c.in_ok-push_stage.ensures s stands
    ∙ ap (λ t. t ++ more) (c.loop-stage.invariant s stands)
    ∙ sym (pairs_next f flow stage)

pub returns : goal.returns
returns c s stands =
    let all : c.loop-stage.stage ≡ (flow_in c.args.core.now).stages = omega (arith, c.loop-stage-test.false, c.loop-stage.auto.stage-end, c.stage_count-stages.ensures.value ∙ ap (λ (p : PlanView). length p.stages) c.plan.ensures, stages_in c.args.core.now) in
    c.loop-stage.invariant s stands ∙ ap (λ n. flat_map (pair_modes (flow_in c.args.core.now) s) (pairs_up_to (flow_in c.args.core.now) n)) all

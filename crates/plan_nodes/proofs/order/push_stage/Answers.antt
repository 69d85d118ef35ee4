use Rattle.std.proofs.Common.{◌∙◌, ◌++◌, ap, sym, append_assoc}
use Rattle.plan_nodes.specs.NodeOrder.{pair_nodes, stage_nodes}
use Rattle.plan_nodes.proofs.NodeOrder.{stage_next}
use Rattle.plan_nodes.proofs.order.push_stage.Goals as goal

pub loop-part-preserved : goal.loop-part-preserved
loop-part-preserved c =
    let old = c.args.ids.now.items in
    c.in_ok-push_pair.ensures ∙ (ap (λ l. l ++ pair_nodes c.args.stage c.loop-part.part) c.loop-part.invariant
    ∙ (append_assoc old (stage_nodes c.args.stage c.loop-part.part) (pair_nodes c.args.stage c.loop-part.part) ∙ ap (λ l. old ++ l) (sym (stage_next c.args.stage c.loop-part.part))))

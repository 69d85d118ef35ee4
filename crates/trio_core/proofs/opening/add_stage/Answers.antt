use Rattle.trio_core.specs.Opening.{HasGroup}
use Rattle.trio_core.proofs.OpenPlan.{of_each}
use Rattle.trio_core.proofs.Opened.{group_stays, more_again, one_more}
use Rattle.trio_core.proofs.opening.add_stage.Goals as goal

pub loop-part-preserved : goal.loop-part-preserved
loop-part-preserved c =
    let more = c.in_ok-add_group.ensures.more in
    let s = c.args.stage in
    let before = c.loop-part.stations.items in
    let after = c.add_group.new.stations.items in
    record {
      more = more_again c.args.plan.now c.args.stations.now.items before after c.loop-part.invariant.more more;
      there = one_more (HasGroup after s) c.loop-part.part (λ p l. group_stays c.args.plan.now before after s p more (c.loop-part.invariant.there p l)) c.in_ok-add_group.ensures.there;
    }

pub returns-clause-there : goal.returns-clause-there
returns-clause-there c =
    of_each c.args.plan.now c.args.stage c.stages.result.now _ c.stages.ensures.value c.requires.low c.requires.high (HasGroup c.loop-part.stations.items c.args.stage) c.loop-part.part c.loop-part-test.false c.loop-part.invariant.there

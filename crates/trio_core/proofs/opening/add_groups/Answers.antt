use Rattle.std.proofs.Common.{ℕ, ◌+◌, IsTrue}
use Rattle.plan_reader.specs.Nodes.{has_pair}
use Rattle.trio_core.specs.Opening.{HasGroup}
use Rattle.trio_core.proofs.Opened.{group_stays, more_again, one_more}
use Rattle.trio_core.proofs.opening.add_groups.Goals as goal

pub loop-stage-preserved : goal.loop-stage-preserved
loop-stage-preserved c =
    let more = c.in_ok-add_stage.ensures.more in
    let before = c.loop-stage.stations.items in
    let after = c.add_stage.new.stations.items in
    record {
      more = more_again c.args.plan.now c.args.stations.now.items before after c.loop-stage.invariant.more more;
      there = one_more (λ s. (p : ℕ) → IsTrue (has_pair c.args.plan.now s p) → HasGroup after s p) (c.loop-stage.stage + 1)
          (λ s l p has. group_stays c.args.plan.now before after s p more (c.loop-stage.invariant.there s l p has)) c.in_ok-add_stage.ensures.there;
    }

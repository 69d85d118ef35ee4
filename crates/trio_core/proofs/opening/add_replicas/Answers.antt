use Rattle.trio_machine.specs.declared.node.TrioNode.TheVariants as node
use Rattle.trio_core.specs.Opening.{HasStation}
use Rattle.trio_core.proofs.Opened.{more_again, one_more}
use Rattle.trio_core.proofs.opening.add_replicas.Goals as goal

pub loop-copy-preserved : goal.loop-copy-preserved
loop-copy-preserved c =
    let more = c.in_ok-add_replica.ensures.more in
    let s = c.args.stage in
    let p = c.args.part in
    record {
      more = more_again c.args.plan.now c.args.stations.now.items c.loop-copy.stations.items c.add_replica.new.stations.items c.loop-copy.invariant.more more;
      there = one_more (λ k. HasStation (node.Replica s p k) c.add_replica.new.stations.items) c.loop-copy.copy (λ k l. more.stays (node.Replica s p k) (c.loop-copy.invariant.there k l)) c.in_ok-add_replica.ensures.there;
    }

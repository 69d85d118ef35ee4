use Rattle.event_log.proofs.Repeated.{appended}
use Rattle.event_log.proofs.blocks.EventBlocks.append_to.Goals as goal

pub loop-block-preserved : goal.loop-block-preserved
loop-block-preserved c =
    appended c.deref-block-items.result.now c.self.inside.blocks.items c.loop-block.block-index _ c.args.events.now.items c.loop-block.events.items c.push_times.new.events.items
    c.loop-block-test.true c.deref-block-items.ensures.value c.loop-block.invariant c.in_ok-push_times.ensures

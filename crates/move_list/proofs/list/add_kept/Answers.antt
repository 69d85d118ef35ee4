use Rattle.move_list.specs.MoveList.{kept_entries}
use Rattle.move_list.proofs.Lists.{below_next, filled_next}
use Rattle.move_list.proofs.list.add_kept.Goals as goal

pub loop-edge-preserved : goal.loop-edge-preserved
loop-edge-preserved c = record {
  entries = below_next (kept_entries c.args.producer.now) c.loop-edge.edge _ _ _ c.loop-edge.invariant.entries c.in_ok-add_kept_of.ensures.entries;
  filled = filled_next c.args.producer.now c.loop-edge.edge c.loop-edge.invariant.filled c.in_ok-add_kept_of.ensures.filled;
}

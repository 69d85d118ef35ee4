use Rattle.merge_order.proofs.Standing.{starting_stands}
use Rattle.merge_order.proofs.merge.Merge.starting.Goals as goal

pub returns-clause-stands : goal.returns-clause-stands
returns-clause-stands c last es edges n l m = rw (c.in_ok-kept.ensures.items, c.in_ok-waiting.ensures) (starting_stands last es c.args.marks.now c.args.count edges n l m)

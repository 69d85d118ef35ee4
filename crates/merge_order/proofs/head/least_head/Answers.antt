use Rattle.merge_order.proofs.Heads.{least_begins}
use Rattle.merge_order.proofs.head.least_head.Goals as goal

pub loop-place-init : goal.loop-place-init
loop-place-init c = least_begins c.args.queues.now c.in_ok-first.field-0.now c.in_ok-least.least.now c.in_ok-first.ensures.value c.in_ok-least.ensures

use Rattle.std.proofs.Common.{◌∙◌, ap, sym, map}
use Rattle.merge_order.specs.HeadStamps.{empty_count, head_stamp}
use Rattle.merge_order.proofs.HeadStamps.{count_opening, stamps_opening}
use Rattle.merge_order.proofs.queues.Queues.new.Goals as goal

pub invariant_of-result : goal.invariant_of-result
invariant_of-result c = (
  c.in_ok-head_stamps.ensures ∙ (stamps_opening c.args.edges ∙ ap (map head_stamp) (sym c.in_ok-queues.ensures)),
  count_opening c.args.edges ∙ ap empty_count (sym c.in_ok-queues.ensures),
)

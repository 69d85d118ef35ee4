use Rattle.std.proofs.Common.{◌∙◌, sym, arith}
use Rattle.tuple_edge.specs.declared.packet.Entry.TheVariants as entry
use Rattle.merge_order.specs.MergeView.{waiting_of}
use Rattle.move_list.specs.MoveList.{used_of}
use Rattle.move_list.proofs.Lists.{push_at}
use Rattle.move_list.proofs.list.add_heads_of.Goals as goal

pub loop-nth-preserved : goal.loop-nth-preserved
loop-nth-preserved c =
    c.in_ok-push.ensures.items
    ∙ push_at (entry.Head c.args.edge) _ (used_of c.args.merge.now c.args.edge) c.loop-nth.nth c.in-Some.item (waiting_of c.args.merge.now c.args.edge) _ _
    (omega (arith, c.saturating_sub-used.ensures, c.mark.ensures, c.waiting-waiting.ensures)) c.loop-nth.invariant (sym c.head.ensures ∙ c.in-Some.is)

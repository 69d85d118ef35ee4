use Rattle.std.proofs.Common.{◌≡◌, ◌+◌, ◌∙◌, ap, sym}
use Rattle.tuple_edge.specs.declared.packet.Entry.TheVariants as entry
use Rattle.ack_buffer.specs.Buffer.{BufferView, item_at}
use Rattle.flux_producer.specs.ProducerView.{buffer_at}
use Rattle.move_list.proofs.Lists.{kept_got, push_at}
use Rattle.move_list.proofs.list.add_kept_of.Goals as goal

pub loop-nth-preserved : goal.loop-nth-preserved
loop-nth-preserved c =
    let low : c.low-low.result ≡ (buffer_at c.args.producer.now c.args.edge).low = c.low-low.ensures.value ∙ ap (λ (b : BufferView). b.low) c.buffer-buffer.ensures in
    let number : c.low-low.result + c.loop-nth.nth + 1 ≡ (buffer_at c.args.producer.now c.args.edge).low + c.loop-nth.nth + 1 = ap (λ n. n + c.loop-nth.nth + 1) low in
    c.in_ok-push.ensures.items
    ∙ push_at (entry.Kept c.args.edge) _ (buffer_at c.args.producer.now c.args.edge).low c.loop-nth.nth c.in-Some.item (buffer_at c.args.producer.now c.args.edge).items _ _
    number c.loop-nth.invariant
    (kept_got (buffer_at c.args.producer.now c.args.edge) (c.low-low.result + c.loop-nth.nth + 1) c.loop-nth.nth c.in-Some.item number
    (ap (λ (b : BufferView). item_at b (c.low-low.result + c.loop-nth.nth + 1)) (sym c.buffer-buffer.ensures) ∙ sym c.get.ensures.value ∙ c.in-Some.is))

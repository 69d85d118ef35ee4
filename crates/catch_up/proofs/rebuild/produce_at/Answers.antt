use Rattle.std.proofs.Common.{◌≡◌, ◌<◌, ◌∙◌, Result, Ok, Err, length, map, ap, arith}
use Rattle.std.specs.Prelude.{OnOk}
use Rattle.std.proofs.lemmas.List.{length-map}
use Rattle.ack_buffer.specs.Buffer.{BufferView, produced_on}
use Rattle.catch_up.specs.Rebuild.{without_spare}
use Rattle.catch_up.proofs.Buffers.{found, set_buffer}
use Rattle.catch_up.proofs.rebuild.produce_at.Goals as goal

then : {A E : Type 0} {P Q : Type 0} → (r : Result A E) → (P → Q) → OnOk r P → OnOk r Q
then (Ok x) f p = f p
then (Err e) f p = tt

pub returns : goal.returns
returns c =
    then c.produce_again.result (λ made.
    set_buffer c.args.buffers.now.items c.args.at c.produce_again.new.buffer c.args.item
    (made ∙ ap (λ (b : BufferView). without_spare (produced_on b c.args.item)) (found c.args.buffers.now.items c.args.at c.index_mut.result.now inside c.index_mut.ensures.value)))
    c.produce_again.ensures
  where
    inside : c.args.at < length (map without_spare c.args.buffers.now.items)
    inside = let long : length (map without_spare c.args.buffers.now.items) ≡ length c.args.buffers.now.items = length-map c.args.buffers.now.items without_spare in omega (arith, long, c.len.ensures, c.if-at-len.false)

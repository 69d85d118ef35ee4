use Rattle.std.proofs.Common.{◌<◌, ◌^◌, Option, length, sym, subst}
use Rattle.std.specs.Option.{IfSome}
use Rattle.circular_buffer.specs.Buffer.{Buffer}
use Rattle.stream_ops.specs.declared.sums.Sums.{Sums}
use Rattle.stream_ops.proofs.entries.slot_after.Goals as goal

pub nth_entry-requires : goal.nth_entry-requires
nth_entry-requires c = subst (λ (o : Option (Buffer Sums)). IfSome o (λ b. length b.items < 2 ^ 32)) (sym c.in-Some.ensures.value) (c.requires c.args.key.now)

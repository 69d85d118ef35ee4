use Rattle.std.proofs.Common.{◌∙◌, ◌+◌, ℕ, Bool, cond, length, ap, sym}
use Rattle.keyed_store.specs.Store.{StoreView}
use Rattle.circular_buffer.specs.Buffer.{Buffer}
use Rattle.tuple_edge.specs.declared.row.Key.{Key}
use Rattle.stream_ops.specs.Entries.{all_told, told_last}
use Rattle.stream_ops.specs.declared.sums.Sums.{Sums}
use Rattle.stream_ops.proofs.Counting.{last_count}
use Rattle.stream_ops.proofs.kept.add_last_row.Goals as goal

pub returns-clause-total : goal.returns-clause-total
returns-clause-total c =
    c.in_ok-longer.ensures
    ∙ ap (λ (n : ℕ). n + cond c.has_room.result 1 0) c.requires.total
    ∙ ap (λ (t : Bool). length (all_told told_last c.args.last_rows.now.kept) + cond t 1 0) c.has_room.ensures
    ∙ sym (last_count c.args.rows c.args.last_rows.now.kept c.args.key c.args.more.now c.requires.rows c.requires.right.0)
    ∙ ap (λ (s : StoreView Key (Buffer Sums)). length (all_told told_last s.kept)) (sym c.in_ok-put_last.ensures.pushes)

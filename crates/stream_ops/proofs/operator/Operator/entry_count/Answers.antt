use Rattle.std.proofs.Common.{◌∙◌, length, ap, sym}
use Rattle.stream_ops.specs.View.{entries_of}
use Rattle.stream_ops.specs.declared.operator.Operator.{Operator}
use Rattle.stream_ops.proofs.Counting.{total_length, window_length}
use Rattle.stream_ops.proofs.Sided.{count_told}
use Rattle.stream_ops.proofs.operator.Operator.entry_count.Goals as goal

pub returns-in-Total : goal.returns-in-Total
returns-in-Total c = c.len.ensures.len ∙ sym (total_length c.in-Total.totals.kept) ∙ ap (λ (o : Operator). length (entries_of o)) (sym c.in-Total.is)

pub returns-in-Window : goal.returns-in-Window
returns-in-Window c = c.len-in-Window.ensures.len ∙ sym (window_length c.in-Window.windows.kept) ∙ ap (λ (o : Operator). length (entries_of o)) (sym c.in-Window.is)

pub returns-in-Crossing : goal.returns-in-Crossing
returns-in-Crossing c = c.len-in-Crossing.ensures.len ∙ sym (total_length c.in-Crossing.totals.kept) ∙ ap (λ (o : Operator). length (entries_of o)) (sym c.in-Crossing.is)

pub returns-in-Join : goal.returns-in-Join
returns-in-Join c = c.entry_count.ensures ∙ count_told c.in-Join.join.sides.kept ∙ ap (λ (o : Operator). length (entries_of o)) (sym c.in-Join.is)

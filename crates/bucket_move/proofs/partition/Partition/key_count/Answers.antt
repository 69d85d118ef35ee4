use Rattle.std.proofs.Common.{ap, ◌∙◌, arith, length}
use Rattle.std.proofs.lemmas.List.{get_or_read}
use Rattle.stream_ops.specs.Kept.{keys_after}
use Rattle.stream_ops.specs.State.{StateView, unseen}
use Rattle.bucket_move.specs.Rows.{items_of}
use Rattle.bucket_move.proofs.StatesAfter.{stood}
use Rattle.bucket_move.proofs.partition.Partition.key_count.Goals as goal

pub returns : goal.returns
returns c = λ spec rows was.
    let states = c.args.self.now.states.items in
    let read = get_or_read states c.args.bucket c.index.result.now (omega arith) c.index.ensures (unseen spec) in
    c.most.ensures.value (items_of rows) (stood spec rows c.index.result.now (read ∙ was)) ∙ ap (λ (s : StateView). length (keys_after s.spec (items_of rows))) (read ∙ was)

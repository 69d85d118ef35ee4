use Rattle.std.proofs.Common.{◌≡◌, ◌++◌, rules}
use Rattle.std.proofs.lemmas.List.Sorted.{answers_always}
use Rattle.trade_text.specs.Inputs.{rows_from}
use Rattle.trade_text.proofs.BothFiles.{sorted_both}
use Rattle.trade_text.proofs.merging.in_time_order.Goals as goal

pub returns : goal.returns
returns c =
    let given : c.push_rows-2.new.inputs.items ≡ rows_from 0 c.args.trades.now ++ rows_from 1 c.args.movements.now = search rules in
    sorted_both c.args.trades.now c.args.movements.now c.push_rows-2.new.inputs.items c.sort_by_key.new.self.items given
    (c.in_ok-sort_by_key.ensures.sorted (λ x. x.row.time) (answers_always _ _ _ (λ f a r g h. search rules)))
    (c.in_ok-sort_by_key.ensures.stable (λ x. x.row.time) (answers_always _ _ _ (λ f a r g h. search rules)))

use Rattle.std.proofs.Common.{rules}
use Rattle.std.proofs.lemmas.List.Sorted.{answers_always}
use Rattle.run_journal.proofs.MergeFacts.{sorted_log}
use Rattle.run_journal.proofs.histories.in_order.Goals as goal

pub returns : goal.returns
returns c =
    sorted_log c.args.histories.now c.in_ok-entries.entries.items c.sort_by_key.new.self.items c.requires c.in_ok-entries.ensures
    (c.in_ok-sort_by_key.ensures.sorted (λ x. (x.stamped.clock, x.node)) (answers_always _ _ _ (λ f a r g h. search rules)))
    (c.in_ok-sort_by_key.ensures.stable (λ x. (x.stamped.clock, x.node)) (answers_always _ _ _ (λ f a r g h. search rules)))

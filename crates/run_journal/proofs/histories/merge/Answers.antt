use Rattle.std.proofs.Common.{◌≡◌, ◌∙◌, ap, map, take}
use Rattle.std.proofs.lemmas.List.{take_all}
use Rattle.run_journal.specs.declared.histories.Placed.{Placed}
use Rattle.run_journal.proofs.MergeFacts.{events_of_sorted}
use Rattle.run_journal.proofs.histories.merge.Goals as goal

pub returns : goal.returns
returns c =
    let items = c.deref-entry-items.result.now in
    let all : take c.loop-entry.entry-index items ≡ items = take_all c.loop-entry.entry-index items c.loop-entry-test.false in
    c.loop-entry.invariant ∙ ap (map (λ (e : Placed). e.stamped.event)) (all ∙ c.deref-entry-items.ensures.value)
    ∙ events_of_sorted c.args.histories.now c.in_ok-entries.entries.items c.in_ok-entries.ensures

use Rattle.std.proofs.Common.{◌≡◌, ◌∙◌, ◌++◌, ◌∷◌, [], sym, ap, rules}
use Rattle.event_log.specs.Stored.{again_of, again_at, entries_of}
use Rattle.event_log.specs.Views.{EntriesView}
use Rattle.event_log.proofs.Written.{again_fixed, stored_again, stored_entry}
use Rattle.event_log.proofs.entries.Entries.push.Goals as goal

pub returns-then-eq-clause-again : goal.returns-then-eq-clause-again
returns-then-eq-clause-again c =
    let n = c.self.inside in
    let same : c.args.entry ≡ n.again = search rules in
    sym (ap again_of (same ∙ sym c.self.invariant) ∙ again_fixed n.stored.items ∙ c.self.invariant)

pub invariant_of-self-2 : goal.invariant_of-self-2
invariant_of-self-2 c =
    let n = c.self.inside in
    ap again_at c.push_reserved.ensures.items ∙ stored_again n.stored.items c.of.result c.args.entry (c.of.ensures.entry (again_at n.stored.items)) ∙ sym c.again-self-inside.ensures

pub returns-clause-entries : goal.returns-clause-entries
returns-clause-entries c =
    let n = c.self.inside in
    ap entries_of c.push_reserved.ensures.items
    ∙ stored_entry n.stored.items c.of.result c.args.entry (c.of.ensures.entry (again_at n.stored.items)) c.of.ensures.further
    ∙ ap (λ (v : EntriesView). v.entries ++ c.args.entry ∷ []) c.self.view_is

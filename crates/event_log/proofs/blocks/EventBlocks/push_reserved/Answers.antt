use Rattle.std.proofs.Common.{◌≡◌, ◌∙◌, ◌++◌, ◌∷◌, [], ap, append_assoc, replicate, sym}
use Rattle.tuple_edge.specs.declared.event.Event.{Event}
use Rattle.event_log.specs.Blocks.{BlocksView, events_in}
use Rattle.event_log.proofs.Repeated.{events_in-more, replicate-more}
use Rattle.event_log.proofs.blocks.EventBlocks.push_reserved.Goals as goal

pub returns-then-self-lt18446744073709551615-clause-events : goal.returns-then-self-lt18446744073709551615-clause-events
returns-then-self-lt18446744073709551615-clause-events c =
    let n = c.self.inside in
    let same : n.last ≡ c.args.event = c.repeats.ensures c.if-repeats.true in
    ap (λ l. events_in n.blocks.items ++ l) (replicate-more n.count n.last)
    ∙ sym (append_assoc (events_in n.blocks.items) (replicate n.count n.last) (n.last ∷ []))
    ∙ ap (λ (v : BlocksView). v.events ++ n.last ∷ []) c.self.view_is
    ∙ ap (λ (e : Event). c.args.self.now.events ++ e ∷ []) same

pub returns-clause-events : goal.returns-clause-events
returns-clause-events c =
    let n = c.self.inside in
    ap (λ l. events_in l ++ c.args.event ∷ []) c.push_reserved.ensures.items
    ∙ ap (λ l. l ++ c.args.event ∷ []) (events_in-more n.blocks.items (record { event = n.last; count = n.count }))
    ∙ ap (λ (v : BlocksView). v.events ++ c.args.event ∷ []) c.self.view_is

use Rattle.std.proofs.Common.{◌≡◌, ◌∙◌, ap, arith, rules, subst, sym}
use Rattle.tuple_edge.specs.declared.event.Event.{Event}
use Rattle.tuple_edge.specs.declared.event.Event.TheVariants as event
use Rattle.tuple_edge.specs.declared.node.NodeId.{NodeId}
use Rattle.event_log.specs.Reading.{Continues}
use Rattle.event_log.proofs.coding.entry_of.Goals as goal

pub returns-in-Take-clause-entry : goal.returns-in-Take-clause-entry
returns-in-Take-clause-entry c =
    let same : c.in-Take.link.to ≡ c.args.node = search rules in
    let taken : c.args.stamped.event ≡ event.Take c.in-Take.link c.in-Take.index = first_of (cc, search rules) in
    let named : c.args.stamped.event ≡ event.Take (record { «from» = c.in-Take.link.from; to = c.args.node }) c.in-Take.index
    = taken ∙ ap (λ (n : NodeId). event.Take (record { «from» = c.in-Take.link.from; to = n }) c.in-Take.index) same in
    let source : c.link-1.given.0.0.0.from ≡ c.in-Take.link.from = first_of (cc, search rules, grind (arith)) in
    subst (λ (e : Event). Continues c.args.node c.args.senders.now c.args.clock c.take_of.result (record { clock = c.args.stamped.clock; event = e }) c.take_of.new.senders) (sym named)
    (subst (λ (n : NodeId). Continues c.args.node c.args.senders.now c.args.clock c.take_of.result (record { clock = c.args.stamped.clock; event = event.Take (record { «from» = n; to = c.args.node }) c.in-Take.index }) c.take_of.new.senders) source
    (c.take_of.ensures.entry c.args.node c.args.clock c.args.stamped.clock c.rise_of-rise.ensures))
